-- How the frames of a load are answered without a folder.
use Rattle.std.proofs.Common.{◌≡◌, ℕ, suc, ◌<◌, ◌+◌, List, ◌∷◌, length, drop, Ok, Err, refl, sym, ap, ◌∙◌, arith}
use Rattle.std.proofs.Math.ListN.{get_or}
use Rattle.std.proofs.Math.Seq.{drop-cons}
use Rattle.std.specs.declared.result.Result.{Result}
use Rattle.channel_frame.specs.declared.frames.Frame.{Frame}
use Rattle.command_codec.specs.declared.reading.CodecFault.{CodecFault}
use Rattle.command_codec.specs.BodyMeaning.{meaning}
use Rattle.ctrl_model.specs.declared.commands.Command.{Command}
use Rattle.ctrl_model.specs.declared.kinds.Who.TheVariants.{Admin}
use Rattle.ctrl_model.specs.State.{State}
use Rattle.ctrl_keep.specs.KeptMachine.{Machine}
use Rattle.ctrl_serve.specs.FrameAnswer.{no_bounds, alone, answer_to, frame_answer, machine_behind_alone}

-- A machine without a folder stays one.
answered_alone : (r : Result Command CodecFault) (s : State) → (answer_to no_bounds Admin (alone s) r).1 ≡ alone (answer_to no_bounds Admin (alone s) r).1.state
answered_alone (Ok c) s = refl
answered_alone (Err e) s = refl

-- Behind a frame and others stands the machine behind these, from the answer to the first on.
behind_more : (f : Frame) (fs : List Frame) (s : State)
    → machine_behind_alone no_bounds Admin (alone s) (f ∷ fs) ≡ machine_behind_alone no_bounds Admin (alone (frame_answer no_bounds Admin f (alone s)).1.state) fs
behind_more f fs s = ap (λ (m : Machine). machine_behind_alone no_bounds Admin m fs) (answered_alone (meaning f.content f.body) s)

-- What the frames from a place on lead to, the answer to the first of them and the others do.
pub leads_on : (frames : List Frame) (i : ℕ) (f : Frame) (s : State) (all : Machine) → i < length frames → f ≡ get_or frames i f → machine_behind_alone no_bounds Admin (alone s) (drop i frames) ≡ all
    → machine_behind_alone no_bounds Admin (alone (frame_answer no_bounds Admin f (alone s)).1.state) (drop (i + 1) frames) ≡ all
leads_on frames i f s all within is leads =
    let next : suc i ≡ i + 1 = omega arith in
    let split : drop i frames ≡ f ∷ drop (i + 1) frames =
    drop-cons frames i f within ∙ ap (λ (y : Frame). y ∷ drop (suc i) frames) (sym is) ∙ ap (λ (n : ℕ). f ∷ drop n frames) next in
    sym (behind_more f (drop (i + 1) frames) s) ∙ ap (machine_behind_alone no_bounds Admin (alone s)) (sym split) ∙ leads

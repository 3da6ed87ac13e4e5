-- What a stop within the answering of a frame by a kept controller finds.
use Rattle.std.specs.Prelude.{IfOk}
use Rattle.std.proofs.Common.{◌≡◌, ◌⊎◌, inl, List, ℕ, sym, ap, ◌∙◌, subst, Ok, Err}
use Rattle.std.specs.declared.result.Result.{Result}
use Rattle.ziti_outside.specs.Images.{Image}
use Rattle.ziti_outside.specs.Moments.{Leaves}
use Rattle.ziti_outside.proofs.MomentLaws.{Leaves-none, Leaves-weaker}
use Rattle.ziti_outside.specs.Views.{Seen, Stopped}
use Rattle.channel_frame.specs.declared.frames.Frame.{Frame}
use Rattle.command_codec.specs.BodyMeaning.{meaning}
use Rattle.ctrl_model.specs.declared.commands.Command.{Command}
use Rattle.ctrl_model.specs.declared.kinds.Who.{Who}
use Rattle.ctrl_model.specs.declared.replies.Reply.{Reply}
use Rattle.ctrl_model.specs.State.{State}
use Rattle.row_store.specs.declared.bounds.StoreBounds.{StoreBounds}
use Rattle.row_store.specs.OpenedStates.{OpensToState}
use Rattle.row_store.specs.StoredRows.{ReadsAs}
use Rattle.row_store.proofs.CommitLaws.{reads_opens}
use Rattle.ctrl_keep.specs.KeptController.{Controlled, HoldsRows}
use Rattle.ctrl_keep.specs.KeptMachine.{Machine, step}
use Rattle.ctrl_keep.proofs.KeptStates.{opens_kept_state}
use Rattle.run_notes.specs.declared.ends.Cut.{Cut}
use Rattle.ctrl_serve.specs.FrameAnswer.{answer_to, frame_answer}

-- The folder of a kept controller opens to its state, whatever image a stop leaves.
pub kept_opens : (k : Controlled) (reads : Image) (images : Image → Type 0) → HoldsRows k → ReadsAs k.stored reads images → (image : Image) → images image → OpensToState image k.state
kept_opens k reads images holds stands image p = opens_kept_state k.stored.format image k.state k.stored.rows holds.format holds.valid holds.rows (reads_opens k.stored reads images stands image p)

-- Where nothing was done, every image opens to the state before.
pub refused_stops : {D : Type 0} {seen : D → Seen} {stopped : D → Stopped}
    (desk : D) (k : Controlled) (next : State) (reads : Image) → HoldsRows k → ReadsAs k.stored reads (stopped desk).images
    → Leaves seen stopped desk desk (λ i. OpensToState i k.state ⊎ OpensToState i next)
refused_stops {stopped = stopped} desk k next reads holds stands =
    Leaves-weaker (λ i. OpensToState i k.state ⊎ OpensToState i next) (Leaves-none desk) (λ i p. inl (kept_opens k reads (stopped desk).images holds stands i p))

-- The answer to a frame that spells a command is the machine's step on it.
pub carried_answer : (bounds : StoreBounds) (who : Who) (f : Frame) (body : List ℕ) (m : Machine) (c : Command) → body ≡ f.body → meaning f.content body ≡ Ok c → step bounds who c m ≡ frame_answer bounds who f m
carried_answer bounds who f body m c same e = sym (ap (λ (b : List ℕ). answer_to bounds who m (meaning f.content b)) (sym same) ∙ ap (answer_to bounds who m) e)

pub carried_so : (r : Result Reply Cut) (bounds : StoreBounds) (who : Who) (f : Frame) (body : List ℕ) (m next : Machine) (c : Command) → body ≡ f.body → meaning f.content body ≡ Ok c
    → IfOk r (λ x. (x, next) ≡ step bounds who c m) → IfOk r (λ x. (x, next) ≡ frame_answer bounds who f m)
carried_so (Ok x) bounds who f body m next c same e is = is ∙ carried_answer bounds who f body m c same e
carried_so (Err cut) bounds who f body m next c same e is = tt

-- A stop within the carrying out of the command that a frame spells is one within the answering of the frame.
pub carried_stops : {D : Type 0} {seen : D → Seen} {stopped : D → Stopped} {old new : D}
    (bounds : StoreBounds) (who : Who) (f : Frame) (body : List ℕ) (m : Machine) (c : Command) → body ≡ f.body → meaning f.content body ≡ Ok c
    → Leaves seen stopped old new (λ i. OpensToState i m.state ⊎ OpensToState i (step bounds who c m).1.state)
    → Leaves seen stopped old new (λ i. OpensToState i m.state ⊎ OpensToState i (frame_answer bounds who f m).1.state)
carried_stops bounds who f body m c same e stops =
    Leaves-weaker (λ i. OpensToState i m.state ⊎ OpensToState i (frame_answer bounds who f m).1.state) stops
    (λ i p. subst (λ (a : Reply × Machine). OpensToState i m.state ⊎ OpensToState i a.1.state) (carried_answer bounds who f body m c same e) p)

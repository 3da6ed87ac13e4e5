-- A run without a folder leaves the serial as it is.
use Rattle.std.proofs.Common.{◌≡◌, ℕ, List, [], ◌∷◌, refl, ◌∙◌, Ok, Err}
use Rattle.std.specs.declared.result.Result.{Result}
use Rattle.channel_frame.specs.declared.frames.Frame.{Frame}
use Rattle.ctrl_model.specs.declared.commands.Command.{Command}
use Rattle.ctrl_model.specs.declared.kinds.Who.{Who}
use Rattle.ctrl_model.specs.State.{State}
use Rattle.ctrl_model.specs.Controller.{answer}
use Rattle.model_laws.proofs.CountedLaws.{answer-serial}
use Rattle.command_codec.specs.declared.reading.CodecFault.{CodecFault}
use Rattle.command_codec.specs.BodyMeaning.{meaning}
use Rattle.ctrl_serve.specs.FrameAnswer.{alone, answer_to, machine_behind, machine_behind_alone, no_bounds}

-- Behind frames of any senders.
pub serial_behind : (s : State) (xs : List (ℕ × (Who × Frame))) → (machine_behind no_bounds (alone s) xs).state.serial ≡ s.serial
serial_behind s [] = refl
serial_behind s (x ∷ xs) = by (meaning x.1.1.content x.1.1.body) (λ t. serial_behind t xs)
  where
    by : (r : Result Command CodecFault) → ((t : State) → (machine_behind no_bounds (alone t) xs).state.serial ≡ t.serial)
        → (machine_behind no_bounds (answer_to no_bounds x.1.0 (alone s) r).1 xs).state.serial ≡ s.serial
    by (Ok c) rest = rest (answer x.1.0 c s).1 ∙ answer-serial x.1.0 c s
    by (Err e) rest = rest s

-- Behind frames of one sender.
pub serial_behind_alone : (who : Who) (s : State) (fs : List Frame) → (machine_behind_alone no_bounds who (alone s) fs).state.serial ≡ s.serial
serial_behind_alone who s [] = refl
serial_behind_alone who s (f ∷ fs) = by (meaning f.content f.body) (λ t. serial_behind_alone who t fs)
  where
    by : (r : Result Command CodecFault) → ((t : State) → (machine_behind_alone no_bounds who (alone t) fs).state.serial ≡ t.serial)
        → (machine_behind_alone no_bounds who (answer_to no_bounds who (alone s) r).1 fs).state.serial ≡ s.serial
    by (Ok c) rest = rest (answer who c s).1 ∙ answer-serial who c s
    by (Err e) rest = rest s

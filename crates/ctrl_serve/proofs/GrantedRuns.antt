-- Along the frames of an input what granted each circuit stands, where it stood before them.
use Rattle.std.proofs.Common.{◌≡◌, ℕ, ◌+◌, ◌≤◌, ◌<◌, ◌==◌, ◌||◌, Bool, true, false, cond, nat_lt, List, [], ◌∷◌, Option, None, Some, Result, Ok, Err, refl, arith}
use Rattle.ctrl_model.specs.declared.commands.Command.{Command}
use Rattle.ctrl_model.specs.declared.kinds.Who.{Who}
use Rattle.ctrl_model.specs.declared.replies.Reply.{Reply}
use Rattle.ctrl_model.specs.Controller.{answer, counted}
use Rattle.ctrl_model.specs.Limits.{last_serial}
use Rattle.ctrl_model.specs.SameStates.{same_state}
use Rattle.model_laws.proofs.CountedLaws.{counted-valid}
use Rattle.std.proofs.lemmas.Bool.Decides.{nat_tests}
use Rattle.ctrl_model.specs.State.{State}
use Rattle.ctrl_model.specs.ValidState.{ValidState}
use Rattle.channel_frame.specs.declared.frames.Frame.{Frame}
use Rattle.command_codec.specs.declared.reading.CodecFault.{CodecFault}
use Rattle.command_codec.specs.BodyMeaning.{meaning}
use Rattle.command_codec.proofs.SpelledLaws.{means}
use Rattle.model_laws.specs.JudgedCircuits.{AreGranted}
use Rattle.model_laws.proofs.RefusalLaws.{cond-holds}
use Rattle.model_laws.proofs.ValidCommands.{answer-granted, answer-valid}
use Rattle.row_codec.specs.declared.changes.Op.{Op}
use Rattle.row_codec.specs.Batches.{batch_between}
use Rattle.row_store.specs.declared.bounds.StoreBounds.{StoreBounds}
use Rattle.ctrl_keep.specs.KeptMachine.{Machine, Place, answered, has_no_room, kept, slot_with}
use Rattle.ctrl_serve.specs.FrameAnswer.{answer_to, frame_answer, machine_behind}
use Rattle.ctrl_core.specs.KeptFormat.{kept_format}

-- ---- one step

-- what holds of the state, and below the last serial of the one that the answer leads to, holds after a step
kept-by : (P : State → Type 0) (full : Bool) (a b : Reply × Machine) → P a.1.state → (full ≡ false → P b.1.state) → P (cond full a b).1.state
kept-by P true a b p q = p
kept-by P false a b p q = q refl

below_last : (n : ℕ) (full : Bool) → n ≤ last_serial → ((n == last_serial) || full) ≡ false → n < last_serial
below_last n true upto e = grind (arith, nat_tests, upto, e)
below_last n false upto e = grind (arith, nat_tests, upto, e)

kept-holds : (P : State → Type 0) (most : ℕ) (reply : Reply) (s next : State) (batch : List Op) (place : Place) → s.serial ≤ last_serial → P s → (s.serial < last_serial → P next) → P (kept most reply s batch next place).1.state
kept-holds P most reply s next [] place upto p q = p
kept-holds P most reply s next (op ∷ ops) place upto p q =
    kept-by P (has_no_room most s (op ∷ ops) place) _ _ p (λ e. q (below_last s.serial (nat_lt most (slot_with (op ∷ ops) place)) upto e))

answered-holds : (P : State → Type 0) (bounds : StoreBounds) (compacts : Bool) (a : Reply × State) (s : State) (place : Option Place) → s.serial ≤ last_serial → P s → P a.1
    → (s.serial < last_serial → P (counted s a.1)) → P (answered bounds compacts a s place).1.state
answered-holds P bounds compacts a s None upto p q c = q
answered-holds P bounds true a s (Some place) upto p q c =
    cond-holds (λ (a : Reply × Machine). P a.1.state) (nat_lt bounds.slot _) _ _ p (cond-holds (λ (a : Reply × Machine). P a.1.state) (nat_lt place.mark bounds.mark) _ _ p p)
answered-holds P bounds false a s (Some place) upto p q c = kept-holds P bounds.slot a.0 s (counted s a.1) (batch_between kept_format s (counted s a.1)) place upto p c

-- a valid state, of which what granted each circuit stands
record IsSound (s : State) : Type 0 where
  valid : ValidState s
  granted : AreGranted s

-- counted it is so too
counted-sound : (s t : State) → IsSound s → IsSound t → s.serial < last_serial → IsSound (counted s t)
counted-sound s t sound next below = record {
  valid = counted-valid s t sound.valid next.valid below;
  granted = cond-holds AreGranted (same_state s t) s (record t { serial = s.serial + 1 }) sound.granted next.granted;
}

frame-sound : (bounds : StoreBounds) (who : Who) (f : Frame) (m : Machine) → IsSound m.state → IsSound (frame_answer bounds who f m).1.state
frame-sound bounds who f m sound = by (meaning f.content f.body) refl
  where
    by : (o : Result Command CodecFault) → meaning f.content f.body ≡ o → IsSound (answer_to bounds who m o).1.state
    by (Err e) is = sound
    by (Ok c) is =
        let spelled = (means f.content f.body c is).form in
        let next : IsSound (answer who c m.state).1 =
        record { valid = answer-valid who c m.state spelled sound.valid; granted = answer-granted who c m.state spelled sound.valid sound.granted } in
        answered-holds IsSound bounds _ (answer who c m.state) m.state m.place sound.valid.counted sound next
        (counted-sound m.state (answer who c m.state).1 sound next)

-- ---- along frames

behind-sound : (bounds : StoreBounds) (m : Machine) (xs : List (ℕ × (Who × Frame))) → IsSound m.state → IsSound (machine_behind bounds m xs).state
behind-sound bounds m [] sound = sound
behind-sound bounds m (x ∷ xs) sound = behind-sound bounds (frame_answer bounds x.1.0 x.1.1 m).1 xs (frame-sound bounds x.1.0 x.1.1 m sound)

pub behind-granted : (bounds : StoreBounds) (m : Machine) (xs : List (ℕ × (Who × Frame))) → ValidState m.state → AreGranted m.state → AreGranted (machine_behind bounds m xs).state
behind-granted bounds m xs valid granted = (behind-sound bounds m xs (record { valid = valid; granted = granted })).granted

-- Rows that are judged exactly, and what that says of a batch.
use Rattle.std.proofs.Common.{◌≡◌, ℕ, ◌==◌, Bool, true, false, Option, None, Some, refl, sym, ap, ◌∙◌}
use Rattle.std.specs.Option.{option_map_or}
use Rattle.std.proofs.lemmas.Bool.{eq-eqb, eqb-true}
use Rattle.ctrl_model.specs.declared.formats.Format.TheVariants.{Two}
use Rattle.ctrl_model.specs.State.{State}
use Rattle.slot_reading.specs.BatchRows.{ByteRows}
use Rattle.follow_core.specs.Following.{are_of_serial}
use Rattle.row_judging.specs.JudgedRows.{judged}
use Rattle.row_judging.proofs.JudgedStates.{judges}
use Rattle.follow_core.specs.Steps.{AreOfSerial}

-- The rows of a valid state of a serial are found to be such.
pub judged_so : (serial : ℕ) (rows : ByteRows) → AreOfSerial serial rows → are_of_serial serial rows ≡ true
judged_so serial rows a =
    let found : judged Two rows ≡ Some a.state = ap (judged Two) a.rows_are ∙ judges.complete Two a.state a.valid tt in
    ap (λ (o : Option State). option_map_or (λ s. s.serial == serial) o false) found ∙ eq-eqb a.state.serial serial a.serial_is

-- And what is found to be such are these.
pub found_so : (serial : ℕ) (rows : ByteRows) → are_of_serial serial rows ≡ true → AreOfSerial serial rows
found_so serial rows e = by (judged Two rows) refl e
  where
    by : (o : Option State) → judged Two rows ≡ o → option_map_or (λ s. s.serial == serial) o false ≡ true → AreOfSerial serial rows
    by None is f = absurd cc
    by (Some s) is f =
        let sound = judges.sound Two rows s is in
        record { state = s; valid = sound.0; serial_is = eqb-true s.serial serial f; rows_are = sound.2 }

-- Rows of no valid state of a serial are not.
pub judged_not : (serial : ℕ) (rows : ByteRows) → (AreOfSerial serial rows → ⊥) → are_of_serial serial rows ≡ false
judged_not serial rows none = by (are_of_serial serial rows) refl
  where
    by : (b : Bool) → are_of_serial serial rows ≡ b → are_of_serial serial rows ≡ false
    by true e = absurd (none (found_so serial rows e))
    by false e = e

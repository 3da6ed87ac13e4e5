-- Rows that were judged as the puts of them.
use Rattle.std.proofs.Common.{◌≡◌, ℕ, ◌==◌, Bool, true, false, List, [], refl, sym, ap, ◌∙◌}
use Rattle.std.proofs.lemmas.Bool.{eq-eqb, eqb-true}
use Rattle.ctrl_model.specs.declared.formats.Format.TheVariants.{Two}
use Rattle.ctrl_model.specs.State.{State, start}
use Rattle.ctrl_model.specs.ValidState.{ValidState}
use Rattle.row_codec.specs.declared.changes.Op.{Op}
use Rattle.row_codec.specs.Batches.{batch_between}
use Rattle.row_laws.proofs.SameStates.{same_from_spelled}
use Rattle.row_loading.specs.LoadedRows.{AreOfNoState}
use Rattle.slot_reading.specs.BatchRows.{ByteRows, puts, rows_after}
use Rattle.row_store.specs.OpenedStates.{byte_rows_of}
use Rattle.row_store.proofs.StateRows.{puts_of_state, rows_are}
use Rattle.follow_core.specs.Steps.{AreOfSerial}

-- They are those of the state that was found, where it has the serial.
pub judged_yes : (serial n : ℕ) (ops : List Op) (s : State) → n ≡ s.serial → ValidState s → ops ≡ batch_between Two start s → (n == serial) ≡ true → (put : ByteRows) → ops ≡ puts put
    → AreOfSerial serial put
judged_yes serial n ops s told valid leads e put is =
    record { state = s; valid = valid; serial_is = sym told ∙ eqb-true n serial e; rows_are = rows_are Two put s (sym is ∙ leads) }

-- And of no other one.
pub judged_no : (serial n : ℕ) (ops : List Op) (s : State) → n ≡ s.serial → ValidState s → ops ≡ batch_between Two start s → (n == serial) ≡ false → (put : ByteRows) → ops ≡ puts put
    → AreOfSerial serial put → ⊥
judged_no serial n ops s told valid leads e put is a =
    let same : s ≡ a.state = same_from_spelled Two s a.state valid a.valid tt tt (sym (rows_are Two put s (sym is ∙ leads)) ∙ a.rows_are) in
    let both : false ≡ true = sym e ∙ eq-eqb n serial (told ∙ ap (λ (t : State). t.serial) same ∙ a.serial_is) in
    cc

-- Puts that lead to no state are of none.
pub judged_none : (serial : ℕ) (ops : List Op) → AreOfNoState Two ops → (put : ByteRows) → ops ≡ puts put → AreOfSerial serial put → ⊥
judged_none serial ops none put is a = none a.state a.valid tt (is ∙ ap puts a.rows_are ∙ sym (puts_of_state Two a.state))

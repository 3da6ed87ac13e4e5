-- A change that is counted raises the serial that the rows of a valid state in the second format tell.
use Rattle.std.proofs.Common.{◌≡◌, ℕ, ◌+◌, Some, sym, ap, ◌∙◌}
use Rattle.ctrl_model.specs.declared.formats.Format.TheVariants.{Two}
use Rattle.ctrl_model.specs.Controller.{counted}
use Rattle.ctrl_model.specs.State.{State}
use Rattle.ctrl_model.specs.ValidState.{ValidState}
use Rattle.model_laws.proofs.CountedLaws.{counted-same, counted-another}
use Rattle.row_judging.proofs.SerialRows.{serial_of_state}
use Rattle.slot_reading.specs.BatchRows.{Raises}
use Rattle.row_store.specs.OpenedStates.{byte_rows_of}

-- A state counted that is another one has the next serial.
counted_serial : (s t : State) → (s ≡ counted s t → ⊥) → (counted s t).serial ≡ s.serial + 1
counted_serial s t other =
    ap (λ (u : State). u.serial) (counted-another s t (λ same. other (sym (ap (counted s) (sym same) ∙ counted-same s))))

-- So its rows raise the serial.
pub counted_raises : (s t : State) → ValidState s → ValidState (counted s t) → (s ≡ counted s t → ⊥) → Raises (byte_rows_of Two s) (byte_rows_of Two (counted s t))
counted_raises s t v w other =
    (s.serial, serial_of_state s v, serial_of_state (counted s t) w ∙ ap (λ (n : ℕ). Some n) (counted_serial s t other))

use Rattle.std.proofs.Common.{◌≡◌, ◌-◌}
use Rattle.ctrl_model.specs.AddressForm.{same_address}
use Rattle.ctrl_model.specs.InterceptForm.{is_without_repeats}
use Rattle.row_reading.specs.RowReading.{front_address, things_in}
use Rattle.row_reading.proofs.intercepts.spellings_differ.Given as goal

-- those that are left have no repeats exactly where all have none
abbrev pub invariant-texts : goal.invariant-texts
invariant-texts l = is_without_repeats same_address (things_in front_address (l.count - l.done) l.rest) ≡ is_without_repeats same_address (things_in front_address l.count l.bytes)

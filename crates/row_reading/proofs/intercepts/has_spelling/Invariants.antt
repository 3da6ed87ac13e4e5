use Rattle.std.proofs.Common.{◌≡◌, ◌-◌, bytes_eq}
use Rattle.std.specs.List.{list_any}
use Rattle.ctrl_model.specs.AddressForm.{address_text}
use Rattle.row_reading.specs.RowReading.{front_address, things_in}
use Rattle.row_reading.proofs.intercepts.has_spelling.Given as goal

-- whether it is one of those that are left tells whether it is one of all
abbrev pub invariant-texts : goal.invariant-texts
invariant-texts l = list_any (λ a. bytes_eq l.text (address_text a)) (things_in front_address (l.count - l.counter) l.rest) ≡ list_any (λ a. bytes_eq l.text (address_text a)) (things_in front_address l.count l.bytes)

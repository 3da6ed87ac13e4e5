use Rattle.std.proofs.Common.{◌≡◌, true, false, ◌&&◌, is_some, sym, ap, ◌∙◌}
use Rattle.ctrl_model.specs.AddressForm.{address_of}
use Rattle.body_fields.specs.PlaceMarks.{is_unmarked}
use Rattle.body_fields.proofs.PlaceLaws.{unmarked_place}
use Rattle.body_fields.proofs.intercept_fields.is_place.Goals as goal

pub returns-then-is_address : goal.returns-then-is_address
returns-then-is_address c =
    let named : is_some (address_of c.args.bytes.now) ≡ true = sym c.is_address.ensures ∙ c.if-is_address.true in
    c.is_unmarked.ensures ∙ sym (ap (λ b. b && is_unmarked c.args.bytes.now) named) ∙ unmarked_place c.args.bytes.now

pub returns-else-is_address : goal.returns-else-is_address
returns-else-is_address c =
    let none : is_some (address_of c.args.bytes.now) ≡ false = sym c.is_address.ensures ∙ c.if-is_address.false in
    c.if-is_address.false ∙ sym (ap (λ b. b && is_unmarked c.args.bytes.now) none) ∙ unmarked_place c.args.bytes.now

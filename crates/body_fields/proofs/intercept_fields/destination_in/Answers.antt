use Rattle.std.proofs.Common.{◌≡◌, false, is_some, option_and_then, sym, ◌∙◌, rules}
use Rattle.ctrl_model.specs.AddressForm.{address_of}
use Rattle.body_fields.specs.InterceptFields.{destination_of}
use Rattle.body_fields.proofs.InterceptLaws.{nothing_of}
use Rattle.body_fields.proofs.intercept_fields.destination_in.Goals as goal

pub returns-then-not-is_place-clause-address : goal.returns-then-not-is_place-clause-address
returns-then-not-is_place-clause-address c =
    let none : is_some (option_and_then destination_of (address_of c.args.bytes.now)) ≡ false = sym c.is_place.ensures ∙ search rules in
    nothing_of (option_and_then destination_of (address_of c.args.bytes.now)) none

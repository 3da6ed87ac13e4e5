use Rattle.std.proofs.Common.{◌≡◌, true, false, bytes_eq, refl, sym, ap, ◌∙◌, subst}
use Rattle.std.specs.Option.{option_map_or}
use Rattle.std.proofs.lemmas.Slice.Eq.{bytes_eq-Decides}
use Rattle.ctrl_model.specs.AddressForm.{address_text, is_spelling}
use Rattle.ctrl_model.proofs.AddressLaws.{own_spelling}
use Rattle.command_bodies.proofs.listing.address_value.Goals as goal

pub address_text-requires : goal.address_text-requires
address_text-requires c =
    let text = address_text c.args.address.now in
    subst (λ w. is_spelling w ≡ true) (sym c.in_ok-spelling.ensures)
    (ap (λ o. option_map_or (λ a. bytes_eq (address_text a) text) o false) (own_spelling c.args.address.now c.requires) ∙ (bytes_eq-Decides text text).1 refl)

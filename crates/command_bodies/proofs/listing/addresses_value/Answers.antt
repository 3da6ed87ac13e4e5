use Rattle.std.proofs.Common.{map, sym, ap, ◌∙◌}
use Rattle.std.specs.List.{list_all}
use Rattle.std.proofs.lemmas.Result.{IfOk-weaker}
use Rattle.std.proofs.lemmas.Simd.{map-map}
use Rattle.ctrl_model.specs.AddressForm.{address_text, is_address}
use Rattle.serde_json.specs.Data.{array, string}
use Rattle.serde_json.specs.View.{items_of}
use Rattle.command_bodies.proofs.listing.addresses_value.Goals as goal

pub list_value-requires : goal.list_value-requires
list_value-requires c = ap (list_all is_address) c.as_slice.ensures ∙ c.requires

pub returns : goal.returns
returns c =
    let all = c.args.addresses.now in
    let texts = ap (map (λ a. string (address_text a))) c.as_slice.ensures ∙ sym (map-map (λ t. string t) address_text all) in
    IfOk-weaker c.list_value.result _ _ (λ v e. e ∙ ap (λ ds. array (items_of ds)) texts) c.list_value.ensures

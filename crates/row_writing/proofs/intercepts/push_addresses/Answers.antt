use Rattle.std.proofs.Common.{◌≡◌, true, subst, sym}
use Rattle.ctrl_model.specs.declared.addresses.Address.{Address}
use Rattle.ctrl_model.specs.AddressForm.{is_address}
use Rattle.ctrl_model.proofs.Members.{Among-get_or, list_all-among}
use Rattle.row_writing.proofs.intercepts.push_addresses.Goals as goal

pub push_address-requires : goal.push_address-requires
push_address-requires c =
    subst (λ (a : Address). is_address a ≡ true) (sym c.address-item.is)
    (list_all-among is_address c.args.addresses.now _ c.requires (Among-get_or c.args.addresses.now c.addresses.address-index c.address-item.result c.addresses-test.true))

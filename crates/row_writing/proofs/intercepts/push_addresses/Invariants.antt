use Rattle.std.proofs.Common.{◌≡◌, ◌++◌, take}
use Rattle.std.specs.List.{flat_map}
use Rattle.row_codec.specs.RowValues.{address_value}
use Rattle.row_writing.proofs.intercepts.push_addresses.Given as goal

-- the addresses before the index are written
abbrev pub invariant-addresses : goal.invariant-addresses
invariant-addresses l = l.out.items ≡ l.fn.out.items ++ flat_map address_value (take l.address-index l.addresses)

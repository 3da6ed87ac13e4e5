use Rattle.std.proofs.Common.{◌≡◌, ◌++◌, take}
use Rattle.std.specs.List.{flat_map}
use Rattle.state_building.specs.BuiltStates.{state_in}
use Rattle.network_picture.specs.Pictures.{kind_drawn}
use Rattle.network_picture.proofs.picturing.put_kinds.Given as goal

-- the lines of the records of the kinds so far
abbrev pub invariant-kinds : goal.invariant-kinds
invariant-kinds l =
    l.text.items
    ≡ l.fn.text.items
    ++ flat_map (kind_drawn (record { links = l.links; terminators = l.terminators }) (state_in l.rows)) (take l.kind-index l.kinds)

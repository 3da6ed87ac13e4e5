use Rattle.std.proofs.Common.{◌≡◌, ◌++◌, map}
use Rattle.ctrl_model.specs.Networks.{seen}
use Rattle.entity_store.proofs.entities.routers_in.Given as goal

abbrev pub invariant-rows : goal.invariant-rows
invariant-rows l = l.found.items ++ map seen l.number-iterator ≡ map seen l.table.rows

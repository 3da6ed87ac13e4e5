use Rattle.std.proofs.Common.{◌≡◌, take}
use Rattle.row_codec.specs.RowKeys.{kinds}
use Rattle.state_building.specs.BuiltStates.{next_in}
use Rattle.ctrl_core.proofs.LoadedLaws.{AreRaised}
use Rattle.ctrl_core.proofs.loading.raise_nexts.Given as goal

-- the next numbers of the kinds so far are raised, and no load changed
abbrev pub invariant-kinds : goal.invariant-kinds
invariant-kinds l = AreRaised (next_in l.rows) (take l.kind-index kinds) l.fn.stores l.stores × (l.stores.terminators.loads ≡ l.fn.stores.terminators.loads)

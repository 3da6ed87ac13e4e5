use Rattle.std.proofs.Common.{take, refl, ◌∙◌}
use Rattle.row_codec.specs.RowKeys.{kinds}
use Rattle.state_building.specs.BuiltStates.{next_in}
use Rattle.ctrl_core.proofs.LoadedLaws.{none_raised, may_raise, raises_next, raised_all}
use Rattle.ctrl_core.proofs.loading.raise_nexts.Goals as goal

pub kinds-init : goal.kinds-init
kinds-init c = (none_raised (next_in c.args.rows.now) c.args.stores.now c.requires.held, refl)

pub skip-requires-clause-later : goal.skip-requires-clause-later
skip-requires-clause-later c =
    rw (c.next_in.ensures)
    (may_raise (next_in c.args.rows.now) (take c.kinds.kind-index kinds) _ c.args.stores.now c.kinds.stores c.kinds.invariant.0 c.requires.later)

pub skip-requires-clause-held : goal.skip-requires-clause-held
skip-requires-clause-held c = c.kinds.invariant.0.held

pub kinds-preserved : goal.kinds-preserved
kinds-preserved c = (
  raises_next (next_in c.args.rows.now) c.kinds.kind-index _ c.next_in.result c.args.stores.now c.kinds.stores c.skip.new.stores c.kinds.invariant.0 c.kinds-test.true c.next_in.ensures c.skip.ensures.carried,
  c.skip.ensures.loads ∙ c.kinds.invariant.1,
)

pub returns-clause-carried : goal.returns-clause-carried
returns-clause-carried c = raised_all (next_in c.args.rows.now) c.kinds.kind-index c.args.stores.now c.kinds.stores c.kinds.invariant.0 c.kinds-test.false

pub returns-clause-loads : goal.returns-clause-loads
returns-clause-loads c = c.kinds.invariant.1

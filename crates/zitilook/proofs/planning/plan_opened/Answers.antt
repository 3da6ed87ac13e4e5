use Rattle.std.proofs.Common.{List, sym, subst}
use Rattle.row_codec.specs.declared.rows.Row.{Row}
use Rattle.change_lines.specs.RowChanges.{AreRowsOf}
use Rattle.zitilook.proofs.PlanningLaws.{planned_so}
use Rattle.zitilook.proofs.planning.plan_opened.Goals as goal

pub rows_of-requires : goal.rows_of-requires
rows_of-requires c = (c.args.core.now.state, c.requires.those)

pub plan_commands-requires-clause-rows : goal.plan_commands-requires-clause-rows
plan_commands-requires-clause-rows c = (
  c.args.format,
  subst (λ (rows : List Row). AreRowsOf c.args.format c.args.core.now.state rows) (sym c.as_slice.ensures.value) (c.in_ok-rows.ensures.rows c.args.core.now.state c.requires.those),
)

pub returns : goal.returns
returns c =
    let p = c.plan_commands in
    planned_so p.result c.args.core.now.state c.args.input.now p.ensures.fault p.ensures.faultless p.ensures.plan

use Rattle.state_building.specs.BuiltStates.{state_in}
use Rattle.dump_lines.proofs.FitRows.{intercept_name}
use Rattle.dump_lines.proofs.making.put_intercept.Goals as goal

pub name_at-requires : goal.name_at-requires
name_at-requires c = intercept_name (state_in c.args.rows.now) (c.args.service, c.args.intercept.now) c.requires

use Rattle.state_building.specs.BuiltStates.{state_in}
use Rattle.dump_lines.proofs.DumpedRows.{entity_spelled, policy_spelled, use_spelled}
use Rattle.dump_lines.proofs.row_making.put_making.Goals as goal

pub put_entity-requires : goal.put_entity-requires
put_entity-requires c = entity_spelled (state_in c.args.rows.now) c.args.row.now c.requires

pub put_policy-requires : goal.put_policy-requires
put_policy-requires c = policy_spelled (state_in c.args.rows.now) c.args.row.now c.requires

pub put_use-requires : goal.put_use-requires
put_use-requires c = use_spelled (state_in c.args.rows.now) c.args.row.now c.requires

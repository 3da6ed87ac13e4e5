use Rattle.std.proofs.Common.{false, cond, [], ◌∷◌}
use Rattle.ctrl_model.specs.declared.commands.Command.TheVariants as command
use Rattle.ctrl_model.specs.declared.kinds.Kind.TheVariants as kind
use Rattle.state_building.specs.BuiltStates.{state_in}
use Rattle.record_lines.specs.RecordNames.{name_of}
use Rattle.dump_lines.proofs.FitRows.{first_spelled, link_name, link_names}
use Rattle.dump_lines.proofs.making.put_link.Goals as goal

pub put_new_link-requires-clause-a : goal.put_new_link-requires-clause-a
put_new_link-requires-clause-a c = (link_names (state_in c.args.rows.now) (record {
  name = c.args.name.now;
  a = c.args.ends.0;
  b = c.args.ends.1;
  cost = c.args.costs.0;
  latency_a = c.args.costs.1.0;
  latency_b = c.args.costs.1.1;
  up = c.args.up;
}) c.requires).0

pub put_new_link-requires-clause-b : goal.put_new_link-requires-clause-b
put_new_link-requires-clause-b c = (link_names (state_in c.args.rows.now) (record {
  name = c.args.name.now;
  a = c.args.ends.0;
  b = c.args.ends.1;
  cost = c.args.costs.0;
  latency_a = c.args.costs.1.0;
  latency_b = c.args.costs.1.1;
  up = c.args.up;
}) c.requires).1

pub put_new_link-requires-clause-spelled : goal.put_new_link-requires-clause-spelled
put_new_link-requires-clause-spelled c = first_spelled (command.CreateLink c.args.name.now (name_of kind.Router (state_in c.args.rows.now) c.args.ends.0)
    (name_of kind.Router (state_in c.args.rows.now) c.args.ends.1) c.args.costs.0 c.args.costs.1.0 c.args.costs.1.1)
    (cond c.args.up [] (command.ReportState c.args.name.now (name_of kind.Router (state_in c.args.rows.now) c.args.ends.0) false ∷ [])) c.requires

pub put_down-requires-clause-name : goal.put_down-requires-clause-name
put_down-requires-clause-name c = link_name (state_in c.args.rows.now) (record {
  name = c.args.name.now;
  a = c.args.ends.0;
  b = c.args.ends.1;
  cost = c.args.costs.0;
  latency_a = c.args.costs.1.0;
  latency_b = c.args.costs.1.1;
  up = c.args.up;
}) c.requires

pub put_down-requires-clause-router : goal.put_down-requires-clause-router
put_down-requires-clause-router c = (link_names (state_in c.args.rows.now) (record {
  name = c.args.name.now;
  a = c.args.ends.0;
  b = c.args.ends.1;
  cost = c.args.costs.0;
  latency_a = c.args.costs.1.0;
  latency_b = c.args.costs.1.1;
  up = c.args.up;
}) c.requires).0

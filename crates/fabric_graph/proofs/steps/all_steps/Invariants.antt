use Rattle.std.proofs.Common.{◌≡◌, ◌++◌, true}
use Rattle.ctrl_model.specs.ValidState.{each_passes}
use Rattle.fabric_graph.specs.FabricRules.{is_fit}
use Rattle.fabric_graph.specs.Steps.{all_steps}
use Rattle.fabric_graph.proofs.steps.all_steps.Given as goal

-- the steps so far and those of the links that are left are all steps
abbrev pub invariant-rows : goal.invariant-rows
invariant-rows l = record {
  so_far : l.steps.items ++ all_steps l.routers l.least l.number-iterator ≡ all_steps l.routers l.least l.table.rows;
  fit : each_passes is_fit l.number-iterator ≡ true;
}

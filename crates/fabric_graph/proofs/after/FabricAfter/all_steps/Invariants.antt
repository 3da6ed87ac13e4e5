use Rattle.std.proofs.Common.{◌≡◌, ◌++◌, drop}
use Rattle.std.specs.List.{flat_map}
use Rattle.fabric_graph.specs.Steps.{steps_at, all_steps}
use Rattle.fabric_graph.proofs.after.FabricAfter.all_steps.Given as goal

-- the steps so far and those of the links that are left are all steps
abbrev pub invariant-links : goal.invariant-links
invariant-links l =
    l.steps.items ++ flat_map (steps_at l.routers l.self.least l.self.links.rows) (drop l.number-index l.number-items)
    ≡ all_steps l.routers l.self.least l.self.links.rows

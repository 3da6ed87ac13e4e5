use Rattle.std.proofs.Common.{◌≡◌, ◌++◌, map, drop}
use Rattle.ctrl_model.specs.declared.kinds.RouterSeen.{RouterSeen}
use Rattle.fabric_graph.proofs.steps.flags.Given as goal

abbrev pub invariant-routers : goal.invariant-routers
invariant-routers l = l.through.items ++ map (λ (r : RouterSeen). r.through) (drop l.router-index l.routers) ≡ map (λ (r : RouterSeen). r.through) l.routers

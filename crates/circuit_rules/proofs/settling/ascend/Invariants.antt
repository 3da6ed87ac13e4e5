use Rattle.std.proofs.Common.{map, drop}
use Rattle.ctrl_model.specs.Numbered.{Between}
use Rattle.fabric_graph.specs.Routers.{numbered}
use Rattle.circuit_rules.proofs.settling.ascend.Given as goal

-- all ascend, if those that are left do from the least number on
abbrev pub invariant-routers : goal.invariant-routers
invariant-routers l = Between l.least 4294967296 (map numbered (drop l.router-index l.routers)) → Between 0 4294967296 (map numbered l.routers)

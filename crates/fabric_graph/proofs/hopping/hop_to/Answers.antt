use Rattle.std.proofs.Common.{rules}
use Rattle.fabric_graph.proofs.hopping.hop_to.Goals as goal

pub returns-then-router : goal.returns-then-router
returns-then-router c = search rules

pub returns-else-router : goal.returns-else-router
returns-else-router c = search rules

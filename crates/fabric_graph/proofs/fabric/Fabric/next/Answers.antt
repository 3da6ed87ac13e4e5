use Rattle.fabric_graph.proofs.KeptLaws.{keeps}
use Rattle.fabric_graph.proofs.fabric.Fabric.next.Goals as goal

pub returns-clause-numbers : goal.returns-clause-numbers
returns-clause-numbers c = rw (← c.self.view_is) (keeps c.self.inside.links c.self.inside.least c.next.ensures.order c.self.invariant)

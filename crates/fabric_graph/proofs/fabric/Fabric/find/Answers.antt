use Rattle.fabric_graph.proofs.KeptLaws.{keeps}
use Rattle.fabric_graph.proofs.fabric.Fabric.find.Goals as goal

pub returns-in-Some-clause-numbers : goal.returns-in-Some-clause-numbers
returns-in-Some-clause-numbers c = rw (← c.self.view_is) (keeps c.self.inside.links c.self.inside.least c.find.ensures.order c.self.invariant)

pub returns-in-None-clause-numbers : goal.returns-in-None-clause-numbers
returns-in-None-clause-numbers c = rw (← c.self.view_is) (keeps c.self.inside.links c.self.inside.least c.find.ensures.order c.self.invariant)

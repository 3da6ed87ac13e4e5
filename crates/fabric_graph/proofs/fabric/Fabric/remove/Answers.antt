use Rattle.fabric_graph.proofs.KeptLaws.{fit_remove}
use Rattle.fabric_graph.proofs.fabric.Fabric.remove.Goals as goal

pub invariant_of-self : goal.invariant_of-self
invariant_of-self c = rw c.remove.ensures (fit_remove c.self.inside.links c.self.inside.least c.args.no.0 c.self.invariant)

use Rattle.fabric_graph.proofs.KeptLaws.{fit_gone}
use Rattle.fabric_graph.proofs.fabric.Fabric.remove_each.Goals as goal

pub invariant_of-self : goal.invariant_of-self
invariant_of-self c = rw c.remove_each.ensures (fit_gone c.self.inside.links c.self.inside.least c.args.gone.now c.self.invariant)

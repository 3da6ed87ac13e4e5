use Rattle.circuits.proofs.CircuitLaws.{few_gone}
use Rattle.circuits.proofs.store.Circuits.remove_each.Goals as goal

pub invariant_of-self : goal.invariant_of-self
invariant_of-self c = rw c.remove_each.ensures (few_gone c.args.gone.now c.self.inside.granted c.self.invariant)

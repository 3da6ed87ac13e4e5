use Rattle.circuits.proofs.CircuitLaws.{few_removed}
use Rattle.circuits.proofs.store.Circuits.remove.Goals as goal

pub invariant_of-self : goal.invariant_of-self
invariant_of-self c = rw c.remove.ensures (few_removed c.args.no.0 c.self.inside.granted c.self.invariant)

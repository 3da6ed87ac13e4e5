use Rattle.circuits.proofs.CircuitLaws.{has_room, few_new}
use Rattle.circuits.proofs.store.Circuits.add.Goals as goal

pub add-requires : goal.add-requires
add-requires c = (has_room c.self.inside.granted (rw (← c.self.view_is) at c.requires)).1

pub invariant_of-self-2 : goal.invariant_of-self-2
invariant_of-self-2 c = rw c.in_ok-number.ensures.ok (few_new c.args.circuit c.self.inside.granted (rw (← c.self.view_is) at c.requires))

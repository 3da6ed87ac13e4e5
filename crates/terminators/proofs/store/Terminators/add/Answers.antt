use Rattle.terminators.proofs.TermLaws.{room_left, fit_new}
use Rattle.terminators.proofs.store.Terminators.add.Goals as goal

pub add-requires : goal.add-requires
add-requires c = (room_left c.self.inside.terms (rw (← c.self.view_is) at c.requires.room)).1

pub invariant_of-self-2 : goal.invariant_of-self-2
invariant_of-self-2 c =
    rw c.in_ok-number.ensures.ok (fit_new c.args.term c.self.inside.terms c.self.invariant (rw (← c.self.view_is) at c.requires.room) c.requires.cost)

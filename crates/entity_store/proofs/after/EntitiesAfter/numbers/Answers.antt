use Rattle.entity_store.proofs.AfterLaws.{numbers-changed}
use Rattle.entity_store.proofs.after.EntitiesAfter.numbers.Goals as goal

pub returns : goal.returns
returns c =
    let i = c.self.inside in
    rw (← c.self.view_is, ← numbers-changed c.args.kind _ i.entities.now c.requires, ← c.turn_of.ensures, ← c.next.ensures.next, ← c.in_ok-numbers.ensures.all)
    c.turned.ensures

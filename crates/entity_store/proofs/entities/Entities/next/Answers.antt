use Rattle.entity_store.proofs.EntityLaws.{routers_keep}
use Rattle.entity_store.proofs.entities.Entities.next.Goals as goal

pub returns-in-Router-clause-numbers : goal.returns-in-Router-clause-numbers
returns-in-Router-clause-numbers c = rw (c.in-Router.is, ← c.self.view_is) (routers_keep _ c.next-in-Router.ensures.order c.self.invariant.0.within.routers)

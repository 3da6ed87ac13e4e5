use Rattle.entity_store.proofs.EntityLaws.{routers_keep, router-numbers}
use Rattle.entity_store.proofs.entities.Entities.numbers.Goals as goal

pub returns-in-Router-clause-all : goal.returns-in-Router-clause-all
returns-in-Router-clause-all c = rw (c.in-Router.is, ← c.self.view_is, router-numbers c.self.inside.tables.routers.rows) c.numbers-in-Router.ensures.numbers

pub returns-in-Router-clause-numbers : goal.returns-in-Router-clause-numbers
returns-in-Router-clause-numbers c = rw (c.in-Router.is, ← c.self.view_is) (routers_keep _ c.numbers-in-Router.ensures.order c.self.invariant.0.within.routers)

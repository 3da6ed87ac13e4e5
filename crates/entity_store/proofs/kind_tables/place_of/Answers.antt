use Rattle.std.proofs.Common.{sym, ◌∙◌}
use Rattle.entity_store.proofs.EntityLaws.{router-present, router-numbers}
use Rattle.entity_store.proofs.kind_tables.place_of.Goals as goal

pub place_in-requires-in-Router : goal.place_in-requires-in-Router
place_in-requires-in-Router c = sym (router-present c.args.tables.now.routers.rows c.args.no) ∙ (rw c.in-Router.is at c.requires.there)

pub returns-in-Router : goal.returns-in-Router
returns-in-Router c = λ held. rw (c.in-Router.is, router-numbers c.args.tables.now.routers.rows) c.place_in-in-Router.ensures

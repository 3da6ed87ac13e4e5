use Rattle.std.proofs.Common.{sym, ◌∙◌}
use Rattle.entity_store.proofs.EntityLaws.{router-at}
use Rattle.entity_store.proofs.kind_tables.seen.Goals as goal

pub returns-in-Router : goal.returns-in-Router
returns-in-Router c = λ held. rw c.in-Router.is (c.seen_router.ensures ∙ sym (router-at c.args.tables.now.routers.rows c.args.no))

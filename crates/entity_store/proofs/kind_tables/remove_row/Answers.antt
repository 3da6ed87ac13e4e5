use Rattle.std.proofs.Common.{sym, ◌∙◌}
use Rattle.entity_store.proofs.EntityLaws.{router-present}
use Rattle.entity_store.proofs.kind_tables.remove_row.Goals as goal

pub remove-requires-in-Router : goal.remove-requires-in-Router
remove-requires-in-Router c = sym (router-present c.args.tables.now.routers.rows c.args.no) ∙ (rw c.in-Router.is at c.requires.there)

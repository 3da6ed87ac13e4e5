use Rattle.std.proofs.Common.{sym, ◌∙◌}
use Rattle.entity_store.proofs.EntityLaws.{router-present}
use Rattle.entity_store.proofs.kind_tables.edit_row.Goals as goal

pub edit-requires-in-Router-clause-there : goal.edit-requires-in-Router-clause-there
edit-requires-in-Router-clause-there c = sym (router-present c.args.tables.now.routers.rows c.args.no) ∙ (rw c.in-Router.is at c.requires.there)

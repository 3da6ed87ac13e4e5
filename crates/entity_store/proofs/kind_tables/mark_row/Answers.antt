use Rattle.std.proofs.Common.{sym, ◌∙◌}
use Rattle.entity_store.proofs.EntityLaws.{router-present}
use Rattle.entity_store.proofs.kind_tables.mark_row.Goals as goal

pub edit-requires-clause-there : goal.edit-requires-clause-there
edit-requires-clause-there c = sym (router-present c.args.tables.now.routers.rows c.args.no) ∙ c.requires

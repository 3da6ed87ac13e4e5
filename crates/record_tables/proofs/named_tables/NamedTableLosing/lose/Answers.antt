use Rattle.std.proofs.Common.{sym, ◌∙◌}
use Rattle.record_tables.proofs.GoneLaws.{removed_absent}
use Rattle.record_tables.proofs.named_tables.NamedTableLosing.lose.Goals as goal

pub returns-else-is_some : goal.returns-else-is_some
returns-else-is_some g c = removed_absent c.args.self.now c.args.number c.get.result c.get.ensures (sym c.is_some.ensures ∙ c.if-is_some.false)

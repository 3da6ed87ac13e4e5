use Rattle.record_tables.proofs.RecordLaws.{at-lent}
use Rattle.record_tables.proofs.numbered_tables.NumberedTable.get.Goals as goal

pub returns : goal.returns
returns g c = rw (← c.self.view_is) (at-lent c.self.inside.records.entries c.args.number c.get.result c.get.ensures.value)

use Rattle.record_tables.specs.Entries.{numbered_records}
use Rattle.record_tables.proofs.EntryLaws.{named_present}
use Rattle.record_tables.proofs.named_tables.NamedTable.find.Goals as goal

pub returns-clause-there : goal.returns-clause-there
returns-clause-there g c =
    rw (← c.self.view_is) (named_present g.R.Named.name_of c.self.inside.next (numbered_records c.self.inside.entries.entries) c.args.name.now c.number_in.result c.self.invariant.order.ordered c.number_in.ensures)

use Rattle.record_tables.proofs.RecordLaws.{remove_entry-without}
use Rattle.record_tables.proofs.numbered_tables.remove_record.Goals as goal

pub returns : goal.returns
returns g c = rw c.remove-removed.ensures.entries (remove_entry-without 4294967295 c.args.records.now.entries 1 c.args.number c.requires)

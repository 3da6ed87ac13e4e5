use Rattle.record_tables.proofs.RecordLaws.{same_records}
use Rattle.record_tables.proofs.numbered_tables.copy_of.Goals as goal

pub returns : goal.returns
returns g c = same_records g.R.Clone.is_clone c.requires c.args.records.now.entries c.in_ok-copied.copied.entries c.in_ok-copied.ensures.cases

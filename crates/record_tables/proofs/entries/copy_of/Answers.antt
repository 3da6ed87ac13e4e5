use Rattle.record_tables.proofs.EntryLaws.{copied-rows, copied-named}
use Rattle.record_tables.proofs.entries.copy_of.Goals as goal

pub returns-clause-rows : goal.returns-clause-rows
returns-clause-rows g c = copied-rows g.R.Clone.is_clone c.requires.equal c.args.entries.now.entries c.in_ok-copied.copied.entries c.in_ok-copied.ensures.cases

pub returns-clause-named : goal.returns-clause-named
returns-clause-named g c =
    copied-named g.R.Clone.is_clone c.requires.equal g.R.Named.name_of c.args.entries.now.entries c.in_ok-copied.copied.entries c.in_ok-copied.ensures.cases c.requires.named

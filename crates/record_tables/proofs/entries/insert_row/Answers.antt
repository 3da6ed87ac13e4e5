use Rattle.std.proofs.Common.{◌≡◌, ◌∙◌, ap}
use Rattle.record_tables.specs.Entries.{numbered_records, number_named, IsAtItsName}
use Rattle.record_tables.proofs.ChangedLists.{all-append}
use Rattle.record_tables.proofs.EntryLaws.{inserted, numbered_records-append}
use Rattle.record_tables.proofs.entries.insert_row.Goals as goal

pub returns-clause-ok : goal.returns-clause-ok
returns-clause-ok g c =
    let es = c.args.entries.now.entries in
    let key_is : c.in_ok-key.key.items ≡ g.R.Named.name_of c.args.row = c.in_ok-key.ensures.items ∙ c.name.ensures in
    let put = inserted g.R.Named.name_of es c.in_ok-key.key (c.args.number, c.args.row) c.requires.named (ap (number_named g.R.Named.name_of (numbered_records es)) key_is ∙ c.requires.free) in
    ap numbered_records (c.in_ok-insert.ensures.entries ∙ put) ∙ numbered_records-append es (c.in_ok-key.key, (c.args.number, c.args.row))

pub returns-clause-named : goal.returns-clause-named
returns-clause-named g c =
    let es = c.args.entries.now.entries in
    let key_is : c.in_ok-key.key.items ≡ g.R.Named.name_of c.args.row = c.in_ok-key.ensures.items ∙ c.name.ensures in
    let put = inserted g.R.Named.name_of es c.in_ok-key.key (c.args.number, c.args.row) c.requires.named (ap (number_named g.R.Named.name_of (numbered_records es)) key_is ∙ c.requires.free) in
    rw (c.in_ok-insert.ensures.entries ∙ put) (all-append (IsAtItsName g.R.Named.name_of) es (c.in_ok-key.key, (c.args.number, c.args.row)) c.requires.named key_is)

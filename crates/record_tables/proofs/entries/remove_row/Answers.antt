use Rattle.record_tables.specs.Entries.{IsAtItsName}
use Rattle.record_tables.proofs.PlaceLaws.{without-place}
use Rattle.record_tables.proofs.ChangedLists.{all-remove}
use Rattle.record_tables.proofs.entries.remove_row.Goals as goal

pub returns-clause-rows : goal.returns-clause-rows
returns-clause-rows g c =
    let p = c.present_place-place.ensures in
    rw c.shift_remove_index-removed.ensures.entries
    (without-place (λ e. e.1) 4294967295 c.args.entries.now.entries 1 c.present_place-place.result c.args.number p.0 c.requires.ordered p.1 p.2)

pub returns-clause-named : goal.returns-clause-named
returns-clause-named g c =
    rw c.shift_remove_index-removed.ensures.entries (all-remove (IsAtItsName g.R.Named.name_of) c.args.entries.now.entries c.present_place-place.result c.requires.named)

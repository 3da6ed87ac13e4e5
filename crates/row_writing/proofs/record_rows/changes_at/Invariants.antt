use Rattle.std.proofs.Common.{◌≡◌, ◌++◌, true, take, drop}
use Rattle.std.specs.List.{list_all}
use Rattle.row_codec.specs.RowKeys.{is_long}
use Rattle.row_writing.specs.RecordChanges.{changes_at}
use Rattle.row_writing.proofs.record_rows.changes_at.Given as goal

-- the changes so far and those at the numbers that are left are all, and the numbers so far have four bytes
abbrev pub invariant-numbers : goal.invariant-numbers
invariant-numbers g l =
    let records = g.R.ChangedRows in
    (l.changes.items ++ changes_at l.kind (records.values_before l.records) (records.values_after l.records) (drop l.number-index l.numbers)
    ≡ changes_at l.kind (records.values_before l.records) (records.values_after l.records) l.numbers)
    × (list_all is_long (take l.number-index l.numbers) ≡ true)

-- Whether what a batch has at a key changes rows (docs/FORMATS.md, "Batches").
use Rattle.std.specs.Prelude.{ℕ, Bool, List}
use Rattle.std.specs.Option.{is_some}
use Rattle.row_codec.specs.RowDifference.{Entry, value_at, said_of}
use Rattle.row_codec.specs.Batches.{bytes_cmp}
use Rattle.slot_reading.specs.BatchRows.{ByteRows}

-- A put gives its key another value or adds it, and a deletion names a key that is there: something must be said of that key.
abbrev pub is_change : ByteRows → Entry (List ℕ) → Bool
is_change rows e = is_some (said_of (value_at bytes_cmp rows e.0) e.1)

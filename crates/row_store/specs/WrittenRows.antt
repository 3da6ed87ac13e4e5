-- Rows as they are written anew: as they are, or as those of the first format become rows of the second one (docs/FORMATS.md, "Compacting").
use Rattle.std.specs.Prelude.{◌≡◌, ℕ, ◌^◌, ◌≤◌, List, map}
use Rattle.ctrl_model.specs.declared.formats.Format.{Format}
use Rattle.journal_core.specs.Slots.{slot_bytes}
use Rattle.row_codec.specs.NarrowedRows.{narrowed}
use Rattle.row_codec.specs.RowDifference.{Rises}
use Rattle.row_codec.specs.Batches.{bytes_cmp}
use Rattle.row_store.specs.declared.writing.Writing.{Writing}
use Rattle.row_store.specs.declared.writing.Writing.TheVariants.{Same, Narrowed}
use Rattle.slot_reading.specs.BatchRows.{ByteRows, ArePuttable}
use Rattle.row_store.specs.RewrittenStores.{compacted, compacted_size}

-- The value at a key, as it is written.
abbrev pub value_as : Writing → (key value : List ℕ) → List ℕ
value_as Same key value = value
value_as Narrowed key value = (narrowed (key, value)).1

-- All rows, as they are written.
abbrev pub rows_as : Writing → ByteRows → ByteRows
rows_as Same rows = rows
rows_as Narrowed rows = map narrowed rows

-- The same, row by row.
abbrev pub each_as : Writing → ByteRows → ByteRows
each_as writing rows = map (λ x. (x.0, value_as writing x.0 x.1)) rows

-- Bytes are the slot of a format in which rows stand compacted, and it is no longer than a slot may be.
pub record IsSlotOf (format : Format) (rows : ByteRows) (bytes : List ℕ) : Type 0 where
  pub rises : Rises bytes_cmp rows
  pub puttable : ArePuttable rows
  pub small : compacted_size rows ≤ 2 ^ 30
  pub written : bytes ≡ slot_bytes format (compacted rows)

-- A batch by which a change is kept: behind what it changes it puts the next serial (docs/FORMATS.md, "Rows").
use Rattle.std.specs.Prelude.{ℕ, ◌+◌, List, [], ◌∷◌, ◌++◌}
use Rattle.row_codec.specs.declared.changes.Op.{Op}
use Rattle.row_codec.specs.Batches.{batch_of}
use Rattle.row_writing.specs.RecordChanges.{serial_change_of}

-- A batch with the put of the serial after one, where it changes something.
abbrev pub with_serial : ℕ → List Op → List Op
with_serial serial [] = []
with_serial serial ops = ops ++ batch_of (serial_change_of serial (serial + 1) ∷ [])

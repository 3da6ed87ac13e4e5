use Rattle.std.proofs.Common.{◌≡◌, ◌+◌, length}
use Rattle.row_codec.specs.Batches.{batch_bytes}
use Rattle.slot_reading.specs.BatchRows.{ArePuttable, rows_in, puts}
use Rattle.row_store.specs.WrittenRows.{each_as}
use Rattle.row_store.proofs.sizing.all_fit.Given as goal

-- the rows that are left can be put, and with their puts the whole leaves of the room what is left
abbrev pub invariant-rows : goal.invariant-rows
invariant-rows l = record {
  puttable : ArePuttable (rows_in l.key-iterator);
  left : l.left + length (batch_bytes (puts (each_as l.writing (rows_in l.rows.entries)))) ≡ l.room + length (batch_bytes (puts (each_as l.writing (rows_in l.key-iterator))));
}

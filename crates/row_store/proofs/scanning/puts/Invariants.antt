use Rattle.std.proofs.Common.{◌≡◌, ◌++◌}
use Rattle.slot_reading.specs.BatchRows.{rows_in, puts}
use Rattle.row_store.specs.WrittenRows.{each_as}
use Rattle.row_store.proofs.scanning.puts.Given as goal

abbrev pub invariant-rows : goal.invariant-rows
invariant-rows l = l.items.items ++ puts (each_as l.writing (rows_in l.key-iterator)) ≡ puts (each_as l.writing (rows_in l.rows.entries))

use Rattle.std.proofs.Common.{◌≡◌, ◌++◌}
use Rattle.slot_reading.specs.BatchRows.{rows_in, puts_of}
use Rattle.row_store.proofs.scanning.puts_of.Given as goal

abbrev pub invariant-rows : goal.invariant-rows
invariant-rows l = l.items.items ++ puts_of l.table (rows_in l.key-iterator) ≡ puts_of l.table (rows_in l.rows.entries)

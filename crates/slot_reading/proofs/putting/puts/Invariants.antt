use Rattle.std.proofs.Common.{◌≡◌, ◌++◌}
use Rattle.slot_reading.specs.BatchRows.{rows_in, puts}
use Rattle.slot_reading.proofs.putting.puts.Given as goal

-- the puts so far and those of the rows that are left are all
abbrev pub invariant-rows : goal.invariant-rows
invariant-rows l = l.items.items ++ puts (rows_in l.key-iterator) ≡ puts (rows_in l.rows.entries)

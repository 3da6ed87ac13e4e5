use Rattle.std.proofs.Common.{◌≡◌, ◌++◌, length}
use Rattle.std.specs.List.{flat_map}
use Rattle.session_mux.specs.Arrivals.{record_bytes}
use Rattle.trace_lines.specs.ActRecords.{data_records}
use Rattle.trace_lines.proofs.cutting.put_pieces.Given as goal

-- what is put down and the records of the rest are all records
abbrev pub invariant-pieces : goal.invariant-pieces
invariant-pieces l = l.out.items ++ flat_map record_bytes (data_records l.session l.rest) ≡ l.fn.out.items ++ flat_map record_bytes (data_records l.session l.bytes)

abbrev pub decreases-pieces : goal.decreases-pieces
decreases-pieces l = length l.rest

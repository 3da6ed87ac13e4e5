use Rattle.std.proofs.Common.{◌≡◌, ◌+◌, ◌≤◌, ◌++◌, length}
use Rattle.std.specs.List.{flat_map}
use Rattle.frame_lines.specs.TextLines.{lines_of}
use Rattle.trace_lines.specs.SessionActs.{acts_from, acts_said, fault_from, fault_traced}
use Rattle.trace_lines.specs.ActRecords.{act_bytes}
use Rattle.trace_lines.proofs.tracing.trace.Given as goal

-- what is put down and what the rest still says is all that is done; the fault of the rest is the fault
abbrev pub invariant-lines : goal.invariant-lines
invariant-lines l = record {
  acts : l.out.items ++ flat_map act_bytes (acts_from (lines_of l.rest) l.seats) ≡ flat_map act_bytes (acts_said l.text);
  fault : fault_from (lines_of l.rest) l.seats l.number ≡ fault_traced l.text;
  few : l.number + length l.rest ≤ length l.text + 1;
}

abbrev pub decreases-lines : goal.decreases-lines
decreases-lines l = length l.rest

use Rattle.std.proofs.Common.{◌≡◌, ◌+◌, ◌≤◌, ◌++◌, length}
use Rattle.std.specs.List.{flat_map}
use Rattle.std.specs.Option.{option_or}
use Rattle.frame_lines.specs.TextLines.{lines_of}
use Rattle.frame_lines.specs.TextReading.{fault_from, fault_said}
use Rattle.frame_lines.specs.TextFaults.{faults_from, fault_line, faults_told}
use Rattle.frame_lines.proofs.checking.check.Given as goal

-- what is put down and what the rest still tells are all faults; the first that was found, or else that of the rest, is the first
abbrev pub invariant-lines : goal.invariant-lines
invariant-lines l = record {
  told : l.out.items ++ flat_map fault_line (faults_from (lines_of l.rest) l.number) ≡ faults_told l.text;
  first : option_or l.fault (fault_from (lines_of l.rest) l.number) ≡ fault_said l.text;
  few : l.number + length l.rest ≤ length l.text + 1;
}

abbrev pub decreases-lines : goal.decreases-lines
decreases-lines l = length l.rest

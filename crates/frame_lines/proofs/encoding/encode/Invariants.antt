use Rattle.std.proofs.Common.{◌≡◌, ◌+◌, ◌≤◌, ◌++◌, length}
use Rattle.std.specs.List.{flat_map}
use Rattle.channel_frame.specs.FrameSpelling.{spelling}
use Rattle.frame_lines.specs.TextLines.{lines_of}
use Rattle.frame_lines.specs.TextReading.{frames_from, frames_said, fault_from, fault_said}
use Rattle.frame_lines.proofs.encoding.encode.Given as goal

-- what is put down and what the rest still says are all frames; the fault of the rest is the fault
abbrev pub invariant-lines : goal.invariant-lines
invariant-lines l = record {
  frames : l.out.items ++ flat_map spelling (frames_from (lines_of l.rest) l.next) ≡ flat_map spelling (frames_said l.text);
  fault : fault_from (lines_of l.rest) l.number ≡ fault_said l.text;
  few : l.number + length l.rest ≤ length l.text + 1;
}

abbrev pub decreases-lines : goal.decreases-lines
decreases-lines l = length l.rest

use Rattle.std.proofs.Common.{◌+◌, ◌-◌, ◌≤◌, length, drop}
use Rattle.frame_lines.proofs.DecodeLaws.{Turning}
use Rattle.frame_lines.proofs.decoding.tell_whole.Given as goal

-- wherever the telling stood, it goes on with the rest of the bytes
abbrev pub invariant-items : goal.invariant-items
invariant-items g l = record {
  turning : Turning g.K.LineKind.reading l.number l.at l.bytes l.out.items l.next (l.at + l.used) (drop l.used l.bytes);
  within : l.used ≤ length l.bytes;
}

abbrev pub decreases-items : goal.decreases-items
decreases-items g l = length l.bytes - l.used

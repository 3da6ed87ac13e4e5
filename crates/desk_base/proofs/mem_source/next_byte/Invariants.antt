use Rattle.std.proofs.Common.{length, ◌-◌, ◌≡◌, map, drop}
use Rattle.desk_base.specs.Pieces.{from_first, without}
use Rattle.desk_base.proofs.mem_source.next_byte.Given as goal

-- the pieces that were passed had no byte
abbrev pub invariant-empty : goal.invariant-empty
invariant-empty l = from_first (without l.at (drop l.next (map (λ v. v.items) l.pieces))) ≡ from_first (without l.fn.at (drop l.fn.next (map (λ v. v.items) l.pieces)))

abbrev pub decreases-empty : goal.decreases-empty
decreases-empty l = length l.pieces - l.next

use Rattle.std.proofs.Common.{◌≡◌, length}
use Rattle.session_mux.specs.Arrivals.{tail_of}
use Rattle.session_mux.proofs.muxing.tail_len.Given as goal

-- the tail of what is left is the tail of all
abbrev pub invariant-records : goal.invariant-records
invariant-records l = record { tail : tail_of l.stages l.rest ≡ tail_of l.fn.stages l.fn.input; numbers : length l.stages ≡ 256 }

abbrev pub decreases-records : goal.decreases-records
decreases-records l = length l.rest

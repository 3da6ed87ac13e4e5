use Rattle.std.proofs.Common.{◌≡◌, length}
use Rattle.desk_base.proofs.stopping.drawn.Given as goal

-- a byte was found for each so far
abbrev pub invariant-bytes : goal.invariant-bytes
invariant-bytes l = length l.text.items ≡ l.byte-index

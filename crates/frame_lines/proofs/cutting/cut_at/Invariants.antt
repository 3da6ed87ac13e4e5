use Rattle.std.proofs.Common.{◌≡◌, ℕ, ◌<◌, false, eqb, get_or}
use Rattle.frame_lines.proofs.cutting.cut_at.Given as goal

-- the byte is not among those before the place
abbrev pub invariant-bytes : goal.invariant-bytes
invariant-bytes l = (k : ℕ) → k < l.place → eqb (get_or l.bytes k 0) l.wanted ≡ false

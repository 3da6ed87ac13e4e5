use Rattle.std.proofs.Common.{◌≡◌, vec_len}
use Rattle.circuits.specs.MovedCircuits.{moved_table}
use Rattle.circuits.proofs.moves.move_each.Given as goal

-- the moves that are left make of the table what all make of the first one
abbrev pub invariant-moves : goal.invariant-moves
invariant-moves l = moved_table l.left.items l.granted ≡ moved_table l.fn.moves l.fn.granted

abbrev pub decreases-moves : goal.decreases-moves
decreases-moves l = vec_len l.left

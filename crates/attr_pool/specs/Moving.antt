-- Which names a change makes held or lets go. Only private functions, proofs and a worked example of this crate cite this
-- file.
use Rattle.std.specs.Prelude.{ℕ, ◌==◌, ◌&&◌, not, Bool, List}
use Rattle.ctrl_model.specs.Matches.{has_name}
use Rattle.attr_pool.specs.Slots.{Slot}
use Rattle.attr_pool.specs.Uses.{times, uses_of}

-- Whether a name has no use.
abbrev pub is_new : List Slot → List ℕ → Bool
is_new slots name = uses_of name slots == 0

-- Whether all uses of a name go and none comes.
abbrev pub leaves : List Slot → List (List ℕ) → List (List ℕ) → List ℕ → Bool
leaves slots gone fresh name = (uses_of name slots == times name gone) && not (has_name fresh name)

use Rattle.std.proofs.Common.{◌≡◌, ◌≤◌, ◌+◌, ◌-◌, ◌++◌, drop, length}
use Rattle.state_building.specs.BuiltStates.{state_in}
use Rattle.change_lines.specs.RowChanges.{between}
use Rattle.change_lines.proofs.comparing.lines_between.Given as goal

-- what was said and what is to be said of the rows that are left are all
abbrev pub invariant-keys : goal.invariant-keys
invariant-keys l = record {
  said : l.text.items ++ between (state_in l.left) (state_in l.right) (drop l.at.0 l.left) (drop l.at.1 l.right) ≡ between (state_in l.left) (state_in l.right) l.left l.right;
  within_left : l.at.0 ≤ length l.left;
  within_right : l.at.1 ≤ length l.right;
}

-- the rows that are left
abbrev pub decreases-keys : goal.decreases-keys
decreases-keys l = (length l.left + length l.right) - (l.at.0 + l.at.1)

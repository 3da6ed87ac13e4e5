use Rattle.std.proofs.Common.{◌≡◌, length}
use Rattle.ctrl_model.specs.ValueForms.{is_distinct}
use Rattle.record_flaws.proofs.soundness.are_distinct.Given as goal

-- the names that are left have no repeats exactly where all have none
abbrev pub invariant-names : goal.invariant-names
invariant-names l = is_distinct l.rest ≡ is_distinct l.names

abbrev pub decreases-names : goal.decreases-names
decreases-names l = length l.rest

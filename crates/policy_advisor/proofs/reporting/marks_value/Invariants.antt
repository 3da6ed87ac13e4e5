use Rattle.std.proofs.Common.{◌≡◌, map, take}
use Rattle.serde_json.specs.View.{view}
use Rattle.policy_advisor.specs.Reports.{mark_array}
use Rattle.policy_advisor.proofs.reporting.marks_value.Given as goal

-- the values are those of the policies before the index
abbrev pub invariant-marks : goal.invariant-marks
invariant-marks l = map view l.values.items ≡ map mark_array (take l.mark-index l.marks)

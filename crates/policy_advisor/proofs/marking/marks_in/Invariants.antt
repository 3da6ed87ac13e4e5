use Rattle.std.proofs.Common.{◌≡◌, ◌++◌}
use Rattle.policy_advisor.specs.Advice.{dial_marks}
use Rattle.policy_advisor.proofs.marking.marks_in.Given as goal

-- what was found so far and what the policies that are left say is all
abbrev pub invariant-policies : goal.invariant-policies
invariant-policies l = l.marks.items ++ dial_marks l.identity l.service l.policy-iterator ≡ dial_marks l.identity l.service l.table.rows

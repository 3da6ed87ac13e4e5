use Rattle.std.proofs.Common.{◌≡◌, ◌++◌, Some}
use Rattle.policy_advisor.specs.Advice.{dial_marks}
use Rattle.access_reasons.specs.declared.findings.Sides.TheVariants.{Both}
use Rattle.access_reasons.specs.Reasons.{names_with}
use Rattle.access_reasons.proofs.dialing.names_in.Given as goal

-- the names so far and those of the policies that are left are all
abbrev pub invariant-policies : goal.invariant-policies
invariant-policies l =
    l.names.items ++ names_with Both (dial_marks (Some l.identity) (Some l.service) l.policy-iterator)
    ≡ names_with Both (dial_marks (Some l.identity) (Some l.service) l.table.rows)

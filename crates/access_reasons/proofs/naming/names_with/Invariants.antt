use Rattle.std.proofs.Common.{◌≡◌, ◌++◌, drop}
use Rattle.access_reasons.specs.Reasons.{names_with}
use Rattle.access_reasons.proofs.naming.names_with.Given as goal

-- the names so far and those of the policies that are left are all
abbrev pub invariant-marks : goal.invariant-marks
invariant-marks l = l.names.items ++ names_with l.sides (drop l.mark-index l.marks) ≡ names_with l.sides l.marks

use Rattle.std.proofs.Common.{◌≡◌, ◌++◌, drop}
use Rattle.access_reasons.specs.ReasonLines.{lines_of}
use Rattle.access_reasons.proofs.telling.lines.Given as goal

-- the lines so far and those of the findings that are left are all
abbrev pub invariant-findings : goal.invariant-findings
invariant-findings l = l.out.items ++ lines_of (drop l.finding-index l.findings) ≡ lines_of l.findings

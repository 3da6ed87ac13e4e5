use Rattle.std.proofs.Common.{◌≡◌, ◌++◌, drop}
use Rattle.std.specs.List.{flat_map}
use Rattle.access_reasons.specs.ReasonLines.{part_text}
use Rattle.access_reasons.proofs.telling.put_parts.Given as goal

-- what was put down so far and the parts that are left are all
abbrev pub invariant-parts : goal.invariant-parts
invariant-parts l = l.out.items ++ flat_map part_text (drop l.part-index l.parts) ≡ l.initial.out.items ++ flat_map part_text l.parts

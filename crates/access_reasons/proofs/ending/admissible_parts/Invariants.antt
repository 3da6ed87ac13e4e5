use Rattle.std.proofs.Common.{◌≡◌, ◌++◌, map, drop}
use Rattle.circuit_rules.specs.Views.{network}
use Rattle.access_reasons.specs.Reasons.{terminator_part}
use Rattle.access_reasons.proofs.ending.admissible_parts.Given as goal

-- the parts so far and those of the terminators that are left are all
abbrev pub invariant-numbers : goal.invariant-numbers
invariant-numbers l =
    l.parts.items ++ map (terminator_part (network l.view) l.entities.identities.rows l.entities.routers.rows) (drop l.number-index l.numbers)
    ≡ map (terminator_part (network l.view) l.entities.identities.rows l.entities.routers.rows) l.numbers

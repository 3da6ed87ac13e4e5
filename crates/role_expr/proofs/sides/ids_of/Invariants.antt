use Rattle.std.proofs.Common.{◌≡◌, take}
use Rattle.std.specs.List.{flat_map}
use Rattle.role_expr.specs.NameRepeats.{without_repeats}
use Rattle.role_expr.specs.RoleSides.{id_in}
use Rattle.role_expr.proofs.sides.ids_of.Given as goal

-- kept are the names of the entries before the index, each once
abbrev pub invariant-roles : goal.invariant-roles
invariant-roles l = without_repeats (flat_map id_in (take l.role-index l.roles)) ≡ l.kept.items

-- The role list that a side is written as (docs/FORMATS.md, "Bodies").
use Rattle.std.specs.Prelude.{ℕ, if◌then◌else◌, List, [], ◌∷◌, ◌++◌, map}
use Rattle.ctrl_model.specs.declared.kinds.Role.{Role}
use Rattle.ctrl_model.specs.declared.kinds.Role.TheVariants as role
use Rattle.ctrl_model.specs.declared.kinds.Side.{Side}
use Rattle.role_expr.specs.RoleSpelling.{role_spelling}

-- The entries of a side: `#all` alone, or its names with `@` in order and then its attributes with `#` in order.
abbrev pub roles_of : Side → List Role
roles_of side = if side.all then role.All ∷ [] else map (λ n. role.Id n) side.ids ++ map (λ n. role.Attribute n) side.attributes

-- These entries as texts.
abbrev pub role_texts : Side → List (List ℕ)
role_texts side = map role_spelling (roles_of side)

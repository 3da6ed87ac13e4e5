-- The side that a role list is (docs/RULES.md, "Policies and grants").
use Rattle.std.specs.Prelude.{ℕ, Bool, true, false, not, ◌&&◌, List, [], ◌∷◌}
use Rattle.std.specs.List.{list_any, flat_map}
use Rattle.ctrl_model.specs.declared.kinds.Role.{Role}
use Rattle.ctrl_model.specs.declared.kinds.Role.TheVariants as role
use Rattle.ctrl_model.specs.declared.kinds.Side.{Side}
use Rattle.role_expr.specs.NameRepeats.{without_repeats}

-- Whether an entry is `#all`.
abbrev pub is_all : Role → Bool
is_all role.All = true
is_all (role.Id name) = false
is_all (role.Attribute name) = false

-- The name that an entry has behind `@`, if it is such an entry.
abbrev pub id_in : Role → List (List ℕ)
id_in role.All = []
id_in (role.Id name) = name ∷ []
id_in (role.Attribute name) = []

-- The attribute that an entry has behind `#`, if it is such an entry.
abbrev pub attribute_in : Role → List (List ℕ)
attribute_in role.All = []
attribute_in (role.Id name) = []
attribute_in (role.Attribute name) = name ∷ []

-- Whether `#all` stands beside another entry.
abbrev pub is_all_beside : List Role → Bool
is_all_beside roles = list_any is_all roles && list_any (λ r. not (is_all r)) roles

-- The side of a role list: whether it has `#all`, and its `@` names and attributes in order, each once.
abbrev pub side_from : List Role → Side
side_from roles = record {
  all = list_any is_all roles;
  ids = without_repeats (flat_map id_in roles);
  attributes = without_repeats (flat_map attribute_in roles);
}

-- How role entries are written (docs/RULES.md, "Policies and grants").
use Rattle.std.specs.Prelude.{ℕ, Bool, true, not, ◌&&◌, List, ◌++◌, codes}
use Rattle.std.specs.Str.{bytes_eq}
use Rattle.ctrl_model.specs.declared.kinds.Role.{Role}
use Rattle.ctrl_model.specs.declared.kinds.Role.TheVariants as role
use Rattle.ctrl_model.specs.NameForm.{is_name}

-- An entry as it is written: `#all`, `@` and an entity's name, or `#` and an attribute.
abbrev pub role_spelling : Role → List ℕ
role_spelling role.All = codes "#all"
role_spelling (role.Id name) = codes "@" ++ name
role_spelling (role.Attribute name) = codes "#" ++ name

-- What an entry has is a name, and no entry refers to an attribute named `all`.
abbrev pub is_role : Role → Bool
is_role role.All = true
is_role (role.Id name) = is_name name
is_role (role.Attribute name) = is_name name && not (bytes_eq name (codes "all"))

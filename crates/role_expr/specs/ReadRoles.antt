-- The entry that bytes are, if they are one, as a function: what the private functions of reading answer, and what the reading of
-- role lists in bodies cites. The public contract of reading says it by spellings.
use Rattle.std.specs.Prelude.{ℕ, ◌==◌, if◌then◌else◌, List, [], ◌∷◌, codes, None, Some, option_map}
use Rattle.std.specs.declared.option.Option.{Option}
use Rattle.std.specs.Str.{bytes_eq}
use Rattle.ctrl_model.specs.declared.kinds.Role.{Role}
use Rattle.ctrl_model.specs.declared.kinds.Role.TheVariants.{All, Id, Attribute}
use Rattle.ctrl_model.specs.NameForm.{is_name}

-- The bytes as a name, if they are one.
abbrev pub name_in : List ℕ → Option (List ℕ)
name_in bytes = if is_name bytes then Some bytes else None

-- The entry behind `#`.
abbrev pub attribute_from : List ℕ → Option Role
attribute_from bytes = if bytes_eq bytes (codes "all") then Some All else option_map Attribute (name_in bytes)

-- The entry that bytes are, by the first of them: 64 is `@` and 35 is `#`.
abbrev pub role_in : List ℕ → Option Role
role_in [] = None
role_in (x ∷ rest) = if x == 64 then option_map Id (name_in rest) else (if x == 35 then attribute_from rest else None)

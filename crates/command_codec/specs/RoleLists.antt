-- Role lists in bodies (docs/FORMATS.md, "Commands"; docs/RULES.md, "Policies and grants").
use Rattle.std.specs.Prelude.{ℕ, Bool, false, if◌then◌else◌, List, codes, None, Some, option_and_then}
use Rattle.std.specs.declared.option.Option.{Option}
use Rattle.std.specs.Str.{bytes_eq}
use Rattle.serde_json.specs.Data.{Data}
use Rattle.serde_json.specs.Find.{as_str}
use Rattle.ctrl_model.specs.declared.kinds.Role.{Role}
use Rattle.ctrl_model.specs.declared.kinds.Side.{Side}
use Rattle.role_expr.specs.ReadRoles.{role_in}
use Rattle.role_expr.specs.RoleSides.{is_all_beside, side_from}
use Rattle.body_fields.specs.ItemLists.{as_each_of}
use Rattle.ctrl_model.specs.Limits.{most_entries}

-- A role entry: the one whose spelling a text is.
abbrev pub as_role : Data → Option Role
as_role d = option_and_then role_in (as_str d)

-- Whether bytes that may be there are `#all`.
abbrev pub is_all_bytes : Option (List ℕ) → Bool
is_all_bytes None = false
is_all_bytes (Some bytes) = bytes_eq bytes (codes "#all")

-- Whether a value is the text of `#all`.
abbrev pub is_all_text : Data → Bool
is_all_text d = is_all_bytes (as_str d)

-- The side of some role entries: `#all` stands alone.
abbrev pub side_of : List Role → Option Side
side_of roles = if is_all_beside roles then None else Some (side_from roles)

-- The side that a value gives: a list of at most 64 role entries, as it was sent. Repeats are dropped.
abbrev pub as_side : Data → Option Side
as_side d = option_and_then side_of (as_each_of most_entries as_role d)

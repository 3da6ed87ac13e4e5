-- Lists of names in bodies (docs/FORMATS.md, "Commands").
use Rattle.std.specs.Prelude.{ℕ, List, option_map}
use Rattle.std.specs.declared.option.Option.{Option}
use Rattle.serde_json.specs.Data.{Data}
use Rattle.json_body.specs.FieldKinds.{as_name}
use Rattle.role_expr.specs.NameRepeats.{without_repeats}
use Rattle.body_fields.specs.ItemLists.{as_each_of}
use Rattle.ctrl_model.specs.Limits.{most_entries}

-- The attributes that a value gives: a list of at most 64 names, as it was sent, and then without repeats.
abbrev pub as_attributes : Data → Option (List (List ℕ))
as_attributes d = option_map without_repeats (as_each_of most_entries as_name d)

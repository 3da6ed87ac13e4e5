-- The fields that have the number of a record, an instance, or a name that may be left out (docs/FORMATS.md, "Commands").
use Rattle.std.specs.Prelude.{ℕ, if◌then◌else◌, List, None, Some, option_map, option_and_then}
use Rattle.std.specs.declared.option.Option.{Option}
use Rattle.serde_json.specs.Data.{Data}
use Rattle.serde_json.specs.Find.{as_str}
use Rattle.ctrl_model.specs.NameForm.{is_instance}
use Rattle.json_body.specs.FieldKinds.{as_name, as_number_in}
use Rattle.ctrl_model.specs.Limits.{most_number}

-- The number of a record.
abbrev pub as_no : Data → Option ℕ
as_no = as_number_in 1 most_number

-- The bytes as an instance, if they are one.
abbrev pub instance_of : List ℕ → Option (List ℕ)
instance_of bytes = if is_instance bytes then Some bytes else None

-- An instance: a name or the empty text.
abbrev pub as_instance : Data → Option (List ℕ)
as_instance d = option_and_then instance_of (as_str d)

-- A name, in a field that may have none.
abbrev pub as_some_name : Data → Option (Option (List ℕ))
as_some_name d = option_map (λ n. Some n) (as_name d)

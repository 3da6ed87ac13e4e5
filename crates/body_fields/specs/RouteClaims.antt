-- The numbers and the potentials of a claimed route in bodies (docs/FORMATS.md, "Commands").
use Rattle.std.specs.Prelude.{ℕ, Bool, true, false, ◌&&◌, ◌||◌, if◌then◌else◌, List, codes, None, Some, option_map, option_and_then, is_some}
use Rattle.std.specs.declared.option.Option.{Option}
use Rattle.std.specs.Str.{bytes_eq}
use Rattle.serde_json.specs.Data.{Data, object, Members, no_members, member}
use Rattle.serde_json.specs.Find.{as_null, get}
use Rattle.ctrl_model.specs.Words.{word_of}
use Rattle.ctrl_model.specs.declared.claims.Reach.{Reach}
use Rattle.ctrl_model.specs.declared.refusals.Field.TheVariants as field
use Rattle.json_body.specs.FieldKinds.{as_number_in}
use Rattle.body_fields.specs.FieldValues.{as_no}
use Rattle.body_fields.specs.ItemLists.{as_each_of}
use Rattle.ctrl_model.specs.Limits.{limit, most_number}
use Rattle.ctrl_model.specs.Claims.{no_path}
use Rattle.ctrl_model.specs.declared.kinds.Kind.TheVariants as kind

-- A list of at most so many numbers of records.
abbrev pub as_numbers : ℕ → Data → Option (List ℕ)
as_numbers most = as_each_of most as_no

-- A value of a potential: a number of 32 bits, or null where there is no path.
abbrev pub as_value : Data → Option ℕ
as_value d = if is_some (as_null d) then Some no_path else as_number_in 0 most_number d

-- Whether each key is one of those of a potential.
abbrev pub are_reach_keys : Members → Bool
are_reach_keys no_members = true
are_reach_keys (member key d ms) = (bytes_eq key (word_of field.Router) || bytes_eq key (codes "values")) && are_reach_keys ms

-- Whether a value is an object without other keys than those of a potential.
abbrev pub has_reach_keys : Data → Bool
has_reach_keys (object ms) = are_reach_keys ms
has_reach_keys _ = false

-- The number of the router that an object gives.
abbrev pub router_in : Data → Option ℕ
router_in d = option_and_then as_no (get (word_of field.Router) d)

-- The values that an object gives.
abbrev pub values_in : Data → Option (List ℕ)
values_in d = option_and_then (as_each_of 256 as_value) (get (codes "values") d)

-- A potential: an object with exactly these keys.
abbrev pub as_reach : Data → Option Reach
as_reach d =
    if has_reach_keys d
    then option_and_then (λ n. option_map (λ vs. record { router = record { 0 = n }; values = vs }) (values_in d)) (router_in d)
    else None

-- A list of at most 256 potentials.
abbrev pub as_potentials : Data → Option (List Reach)
as_potentials = as_each_of (limit kind.Router) as_reach

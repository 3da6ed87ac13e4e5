-- What the fields of a JSON object say, by kind, and why one says nothing (docs/FORMATS.md, "Bodies").
use Rattle.std.specs.Prelude.{ℕ, ◌+◌, nat_le, Bool, true, ◌&&◌, ⊤, if◌then◌else◌, List, None, Some, Ok, Err, option_and_then, is_some}
use Rattle.std.specs.declared.option.Option.{Option}
use Rattle.std.specs.declared.result.Result.{Result}
use Rattle.std.specs.Option.{ok_or}
use Rattle.std.specs.List.{list_any}
use Rattle.std.specs.Str.{bytes_eq}
use Rattle.serde_json.specs.Data.{Data, object, Items, no_items, item, Members, no_members, member}
use Rattle.serde_json.specs.Find.{get, as_str, as_number, as_u64, as_array, as_object}
use Rattle.serde_json.specs.View.{view}
use Rattle.ctrl_model.specs.NameForm.{is_name}
use Rattle.ctrl_model.specs.Words.{word_of}
use Rattle.ctrl_model.specs.declared.refusals.Field.{Field}
use Rattle.json_body.specs.declared.fields.FieldFault.{FieldFault}
use Rattle.json_body.specs.declared.fields.FieldFault.TheVariants.{Missing, WrongKind, Unknown}
use Rattle.json_body.specs.declared.fields.Fields.{Fields}

-- The object whose fields these are.
abbrev pub object_of : Fields → Data
object_of fields = view fields.value.now

-- Whether a value is an object.
abbrev pub is_object : Data → Bool
is_object d = is_some (as_object d)

-- The value that an object has under a field's word, if it has one.
abbrev pub member_of : Field → Data → Option Data
member_of field o = get (word_of field) o

-- The bytes as a name, if they are one.
abbrev pub name_of : List ℕ → Option (List ℕ)
name_of bytes = if is_name bytes then Some bytes else None

-- A number within a range, its ends included.
abbrev pub within : ℕ → ℕ → ℕ → Option ℕ
within low high n = if nat_le low n && nat_le n high then Some n else None

-- How many values a list has.
abbrev pub items_count : Items → ℕ
items_count no_items = 0
items_count (item d ds) = 1 + items_count ds

-- A list of at most so many values.
abbrev pub at_most : ℕ → Items → Option Items
at_most most ds = if nat_le (items_count ds) most then Some ds else None

-- The kinds of field, each as what a value of the kind says. A text is `as_str` and a truth value `as_bool`.
-- A name.
abbrev pub as_name : Data → Option (List ℕ)
as_name d = option_and_then name_of (as_str d)

-- A whole number in a range, as it is written without a point, an exponent or a sign.
abbrev pub as_number_in : ℕ → ℕ → Data → Option ℕ
as_number_in low high d = option_and_then (within low high) (option_and_then as_u64 (as_number d))

-- A list of at most so many values.
abbrev pub as_list_of : ℕ → Data → Option Items
as_list_of most d = option_and_then (at_most most) (as_array d)

-- What a value that is there says of a kind: it is of the wrong kind where it says nothing.
abbrev pub of_kind : {A : Type 0} → Field → (Data → Option A) → Data → Result A FieldFault
of_kind field kind d = ok_or (kind d) (WrongKind field)

-- What a field that is required says: it is missing where it is absent.
abbrev pub required_from : {A : Type 0} → Field → (Data → Option A) → Option Data → Result A FieldFault
required_from field kind None = Err (Missing field)
required_from field kind (Some d) = of_kind field kind d

-- What an object says of a field that is required.
abbrev pub required : {A : Type 0} → (Data → Option A) → Field → Data → Result A FieldFault
required kind field o = required_from field kind (member_of field o)

-- What a field that may be left out says: a value of its own where it is absent.
abbrev pub optional_from : {A : Type 0} → Field → (Data → Option A) → A → Option Data → Result A FieldFault
optional_from field kind otherwise None = Ok otherwise
optional_from field kind otherwise (Some d) = of_kind field kind d

-- What an object says of a field that may be left out.
abbrev pub optional : {A : Type 0} → (Data → Option A) → A → Field → Data → Result A FieldFault
optional kind otherwise field o = optional_from field kind otherwise (member_of field o)

-- Whether a key is the word of one of some fields.
abbrev pub is_word_of : List Field → List ℕ → Bool
is_word_of fields key = list_any (λ field. bytes_eq (word_of field) key) fields

-- Whether each key of an object is the word of one of some fields.
abbrev pub are_words_of : List Field → Members → Bool
are_words_of fields no_members = true
are_words_of fields (member key d ms) = is_word_of fields key && are_words_of fields ms

-- Whether an object has only such keys.
abbrev pub has_only : List Field → Data → Bool
has_only fields (object ms) = are_words_of fields ms
has_only fields _ = true

-- That an object has no other keys.
abbrev pub finished : List Field → Data → Result ⊤ FieldFault
finished fields o = if has_only fields o then Ok tt else Err Unknown

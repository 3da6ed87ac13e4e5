-- What a body gives in the fields of a command, and the object of these fields (docs/FORMATS.md, "Bodies"). An object has its
-- keys in ascending order, whatever the order in which the fields are given.
use Rattle.std.specs.Prelude.{ℕ, ◌==◌, if◌then◌else◌, Bool, List, [], ◌∷◌, codes, map, None, Some}
use Rattle.std.specs.declared.option.Option.{Option}
use Rattle.serde_json.specs.Data.{Data, null, boolean, number, unsigned, string, array, object, Members, no_members, member, put}
use Rattle.serde_json.specs.View.{items_of}
use Rattle.ctrl_model.specs.Claims.{no_path}
use Rattle.ctrl_model.specs.Words.{word_of}
use Rattle.ctrl_model.specs.declared.claims.Reach.{Reach}
use Rattle.ctrl_model.specs.declared.intercepts.PortRange.{PortRange}
use Rattle.ctrl_model.specs.declared.refusals.Field.{Field}
use Rattle.ctrl_model.specs.declared.refusals.Field.TheVariants as field

-- The value of a field: a text, a number, a truth value, or a list of texts, of numbers, of potentials or of ranges of ports.
pub data Given : Type 0 where
  a_text : List ℕ → Given
  a_number : ℕ → Given
  a_flag : Bool → Given
  some_texts : List (List ℕ) → Given
  some_numbers : List ℕ → Given
  some_reaches : List Reach → Given
  some_ranges : List PortRange → Given

-- A number.
abbrev pub natural : ℕ → Data
natural n = number (unsigned n)

-- A list of which each value is written so.
abbrev pub list_of : {A : Type 0} → (A → Data) → List A → Data
list_of written xs = array (items_of (map written xs))

-- The value of a potential: null where there is no path.
abbrev pub value_or_null : ℕ → Data
value_or_null n = if n == no_path then null else natural n

-- A potential.
abbrev pub potential : Reach → Data
potential e = object (
    member (word_of field.Router) (natural e.router.0)
    (member (codes "values") (list_of value_or_null e.values)
    no_members))

-- A range of ports: the lowest and the highest.
abbrev pub two_ports : PortRange → Data
two_ports r = list_of natural (r.low ∷ r.high ∷ [])

-- The JSON value that a field is given.
abbrev pub data_of : Given → Data
data_of (a_text bytes) = string bytes
data_of (a_number n) = natural n
data_of (a_flag b) = boolean b
data_of (some_texts texts) = list_of (λ t. string t) texts
data_of (some_numbers ns) = list_of natural ns
data_of (some_reaches es) = list_of potential es
data_of (some_ranges rs) = list_of two_ports rs

-- A field under its word, beside other members.
abbrev pub with_field : Field × Given → Members → Members
with_field f ms = put (word_of f.0) (data_of f.1) ms

-- Some fields, beside other members.
abbrev pub with_fields : List (Field × Given) → Members → Members
with_fields [] ms = ms
with_fields (f ∷ fs) ms = with_fields fs (with_field f ms)

-- The object of some fields.
abbrev pub object_with : List (Field × Given) → Data
object_with fs = object (with_fields fs no_members)

-- A text, if there is one.
abbrev pub text_if_any : Option (List ℕ) → Option Given
text_if_any None = None
text_if_any (Some bytes) = Some (a_text bytes)

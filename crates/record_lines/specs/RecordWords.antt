-- The words of a line that says a record (docs/FORMATS.md, "Lines of records").
use Rattle.std.specs.Prelude.{ℕ, Bool, true, false, if◌then◌else◌, List, [], ◌∷◌, ◌++◌, codes, decimal, None, Some}
use Rattle.std.specs.declared.option.Option.{Option}
use Rattle.std.specs.List.{flat_map}
use Rattle.ctrl_model.specs.declared.intercepts.Intercept.{Intercept}
use Rattle.ctrl_model.specs.declared.intercepts.PortRange.{PortRange}
use Rattle.ctrl_model.specs.declared.kinds.Side.{Side}
use Rattle.ctrl_model.specs.AddressForm.{address_text}
use Rattle.command_bodies.specs.WrittenWords.{protocol_words}

-- A word behind a space.
abbrev pub spaced : List ℕ → List ℕ
spaced word = codes " " ++ word

-- A field behind a space: its key and its value.
abbrev pub keyed : List ℕ → List ℕ → List ℕ
keyed key value = codes " " ++ (key ++ (codes "=" ++ value))

-- A field that is left out where it has no value.
abbrev pub keyed_if_any : List ℕ → Option (List ℕ) → List ℕ
keyed_if_any key None = []
keyed_if_any key (Some value) = keyed key value

-- A truth value.
abbrev pub flag_word : Bool → List ℕ
flag_word true = codes "true"
flag_word false = codes "false"

-- What a line begins with: the number of the record, and its name.
abbrev pub head : ℕ → List ℕ → List ℕ
head n name = decimal n ++ spaced name

-- Attributes, each as a role list has it.
abbrev pub attribute_words : List (List ℕ) → List ℕ
attribute_words names = flat_map (λ name. codes " #" ++ name) names

-- The entries of a side of a policy: `#all` alone, or its names with `@` and then its attributes.
abbrev pub side_words : Side → List ℕ
side_words side = if side.all then codes " #all" else flat_map (λ name. codes " @" ++ name) side.ids ++ attribute_words side.attributes

-- A text as a body has it: in quotes. Names and addresses have no byte that a body escapes.
abbrev pub quoted_word : List ℕ → List ℕ
quoted_word text = codes "\"" ++ (text ++ codes "\"")

-- Values, each behind a comma.
abbrev pub behind_commas : {A : Type 0} → (A → List ℕ) → List A → List ℕ
behind_commas word values = flat_map (λ value. codes "," ++ word value) values

-- Values with a comma between two.
abbrev pub with_commas : {A : Type 0} → (A → List ℕ) → List A → List ℕ
with_commas word [] = []
with_commas word (value ∷ values) = word value ++ behind_commas word values

-- A list as a body has it.
abbrev pub list_word : {A : Type 0} → (A → List ℕ) → List A → List ℕ
list_word word values = codes "[" ++ (with_commas word values ++ codes "]")

-- The protocols of an intercept, tcp first.
abbrev pub protocols_word : Intercept → List ℕ
protocols_word i = list_word quoted_word (protocol_words i.tcp i.udp)

-- Its addresses, each in its one spelling.
abbrev pub addresses_word : Intercept → List ℕ
addresses_word i = list_word (λ a. quoted_word (address_text a)) i.addresses

-- A range of ports: the list of its lowest and its highest port.
abbrev pub range_word : PortRange → List ℕ
range_word r = list_word decimal (r.low ∷ r.high ∷ [])

-- Its ranges of ports.
abbrev pub ports_word : Intercept → List ℕ
ports_word i = list_word range_word i.ports

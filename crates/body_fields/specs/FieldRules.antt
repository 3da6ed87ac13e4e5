-- What a command asks of the fields of an object, and the first fault of an object that has to do so, as a place in the order of
-- faults before which nothing is amiss; no reading is followed to say it (docs/FORMATS.md, "Bodies").
use Rattle.std.specs.Prelude.{◌≡◌, Bool, true, false, ◌⊎◌, List, ◌∷◌, ◌++◌, map, None, Some, is_some}
use Rattle.std.specs.declared.option.Option.{Option}
use Rattle.std.specs.List.{AllByRecursion}
use Rattle.serde_json.specs.Data.{Data}
use Rattle.ctrl_model.specs.declared.refusals.Field.{Field}
use Rattle.json_body.specs.declared.fields.FieldFault.{FieldFault}
use Rattle.json_body.specs.declared.fields.FieldFault.TheVariants.{Missing, WrongKind, Unknown}
use Rattle.json_body.specs.FieldKinds.{member_of, has_only}
use Rattle.body_fields.specs.declared.field_rules.AskedField.{AskedField}
use Rattle.body_fields.specs.declared.field_rules.AskedField.TheVariants as asked

-- What a command asks of one field: whether it has to be there, and which values are of its kind.
pub record FieldRule : Type 0 where
  pub of_field : Field
  pub is_needed : Bool
  pub is_of_kind : Data → Bool

-- A field of a kind that has to be there.
abbrev pub needs : {A : Type 0} → (Data → Option A) → Field → FieldRule
needs kind of_field = record { of_field = of_field; is_needed = true; is_of_kind = λ d. is_some (kind d) }

-- A field of a kind that may be left out.
abbrev pub may_have : {A : Type 0} → (Data → Option A) → Field → FieldRule
may_have kind of_field = record { of_field = of_field; is_needed = false; is_of_kind = λ d. is_some (kind d) }

-- An object has no value in a field that has to be there.
pub record IsMissing (rule : FieldRule) (o : Data) (f : FieldFault) : Type 0 where
  pub needed : rule.is_needed ≡ true
  pub absent : member_of rule.of_field o ≡ None
  pub told : f ≡ Missing rule.of_field

-- An object has a value in a field, and it is not of the field's kind.
pub record IsOfWrongKind (rule : FieldRule) (o : Data) (f : FieldFault) : Type 0 where
  pub value : Data
  pub there : member_of rule.of_field o ≡ Some value
  pub other : rule.is_of_kind value ≡ false
  pub told : f ≡ WrongKind rule.of_field

-- An object breaks the rule of a field, by this fault.
abbrev pub Breaks : FieldRule → Data → FieldFault → Type 0
Breaks rule o f = IsMissing rule o f ⊎ IsOfWrongKind rule o f

-- An object keeps the rule of a field.
abbrev pub Keeps : Data → FieldRule → Type 0
Keeps o rule = (f : FieldFault) → Breaks rule o f → ⊥

-- An object breaks one of the rules, and keeps those before it.
pub record BreaksFirst (rules : List FieldRule) (o : Data) (f : FieldFault) : Type 0 where
  pub before : List FieldRule
  pub rule : FieldRule
  pub behind : List FieldRule
  pub place : rules ≡ before ++ rule ∷ behind
  pub kept : AllByRecursion (Keeps o) before
  pub breaks : Breaks rule o f

-- An object keeps all the rules, and has a key that is the word of none of the fields.
pub record HasAnotherKey (rules : List FieldRule) (fields : List Field) (o : Data) (f : FieldFault) : Type 0 where
  pub kept : AllByRecursion (Keeps o) rules
  pub other : has_only fields o ≡ false
  pub told : f ≡ Unknown

-- The first fault of an object that has to keep these rules and to have the words of these fields alone: another key counts behind
-- all of the rules.
abbrev pub IsFirstAmong : List FieldRule → List Field → Data → FieldFault → Type 0
IsFirstAmong rules fields o f = BreaksFirst rules o f ⊎ HasAnotherKey rules fields o f

-- The first fault of an object that has to keep these rules, and has no other fields.
abbrev pub IsFirstFault : List FieldRule → Data → FieldFault → Type 0
IsFirstFault rules o f = IsFirstAmong rules (map (λ rule. rule.of_field) rules) o f

-- The rule of a field that is asked for, by which values are of a kind.
abbrev pub rule_of : {K : Type 0} → (K → Data → Bool) → AskedField K → FieldRule
rule_of is_of (asked.Needed of_field kind) = record { of_field = of_field; is_needed = true; is_of_kind = λ d. is_of kind d }
rule_of is_of (asked.Optional of_field kind) = record { of_field = of_field; is_needed = false; is_of_kind = λ d. is_of kind d }

-- The rules of fields.
abbrev pub rules_of : {K : Type 0} → (K → Data → Bool) → List (AskedField K) → List FieldRule
rules_of is_of fields = map (rule_of is_of) fields

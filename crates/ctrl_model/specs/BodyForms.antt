-- The form of the body of a command: its fields in their order, each with the kind of its values and, where it may be left out, the
-- value that it then has. What a body spells, why it spells nothing, and the body that is written follow from it.
use Rattle.std.specs.Prelude.{⊤, List, [], ◌∷◌, map, None, Some}
use Rattle.std.specs.declared.option.Option.{Option}
use Rattle.ctrl_model.specs.declared.commands.Command.{Command}
use Rattle.ctrl_model.specs.declared.refusals.Field.{Field}
use Rattle.ctrl_model.specs.declared.value_kinds.ValueKind.{ValueKind}
use Rattle.ctrl_model.specs.ValueKinds.{Said}

-- A field of a body, with the value that it has where it is left out, if it may be.
pub record BodyField : Type 0 where
  pub of_field : Field
  pub kind : ValueKind
  pub otherwise : Option (Said kind)

-- A field that has to be there.
abbrev pub needs : ValueKind → Field → BodyField
needs kind of_field = record { of_field = of_field; kind = kind; otherwise = None }

-- A field that may be left out, and then has this value.
abbrev pub may_have : (kind : ValueKind) → Said kind → Field → BodyField
may_have kind x of_field = record { of_field = of_field; kind = kind; otherwise = Some x }

-- The fields of a body, in the order in which the first fault counts.
abbrev pub Form : Type 0
Form = List BodyField

-- Which fields there may be.
abbrev pub fields_in : Form → List Field
fields_in form = map (λ f. f.of_field) form

-- ---- the values of the fields

infixr 5 ◌&◌
-- A value before others.
abbrev pub ◌&◌ : {A B : Type 0} → A → B → A × B
x & xs = (x, xs)

-- A value for each field of a form.
abbrev pub Values : Form → Type 0
Values [] = ⊤
Values (f ∷ fs) = Said f.kind × Values fs

-- What makes a command of a value for each field of a form, one after another.
abbrev pub Makes : Form → Type 0
Makes [] = Command
Makes (f ∷ fs) = Said f.kind → Makes fs

-- The command that is made of values.
abbrev pub made_of : (form : Form) → Makes form → Values form → Command
made_of [] c xs = c
made_of (f ∷ fs) make xs = made_of fs (make xs.0) xs.1

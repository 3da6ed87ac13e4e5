-- Which commands some body spells: those whose values have the form of their kinds (docs/FORMATS.md, "Commands").
use Rattle.std.specs.Prelude.{Bool, true, ◌&&◌, List, [], ◌∷◌, ◌++◌}
use Rattle.ctrl_model.specs.declared.commands.Command.{Command}
use Rattle.ctrl_model.specs.BodyForms.{Form, Values}
use Rattle.ctrl_model.specs.CommandValues.{form_of, values_of}
use Rattle.ctrl_model.specs.ValueKinds.{checks}

-- What is to hold of the values of a form.
abbrev pub all_checks : (form : Form) → Values form → List Bool
all_checks [] xs = []
all_checks (f ∷ fs) xs = checks f.kind xs.0 ++ all_checks fs xs.1

-- Whether all of them hold.
abbrev pub all_hold : List Bool → Bool
all_hold [] = true
all_hold (b ∷ []) = b
all_hold (b ∷ c ∷ bs) = b && all_hold (c ∷ bs)

-- Whether some body spells a command.
abbrev pub is_spelled : Command → Bool
is_spelled c = all_hold (all_checks (form_of c) (values_of c))

-- The form of a claimed route without its request. Private contracts alone cite it.
use Rattle.std.specs.Prelude.{[], ◌∷◌}
use Rattle.ctrl_model.specs.declared.kinds.Kind.TheVariants as kind
use Rattle.ctrl_model.specs.declared.refusals.Field.TheVariants as field
use Rattle.ctrl_model.specs.declared.value_kinds.ValueKind.TheVariants as value
use Rattle.ctrl_model.specs.BodyForms.{Form, needs}
use Rattle.ctrl_model.specs.Limits.{limit, longest_path}
use Rattle.ctrl_model.specs.ValueKinds.{number_of_record, total}

-- What stands in a claim behind the fields of a request.
abbrev pub claimed : Form
claimed =
    needs value.Name field.Chosen ∷ needs (value.Numbers longest_path) field.Links ∷ needs value.Potentials field.Potentials
    ∷ needs (value.Numbers (limit kind.Router)) field.Routers ∷ needs number_of_record field.Terminator ∷ needs total field.Total ∷ []

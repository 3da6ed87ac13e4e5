use Rattle.std.proofs.Common.{sym, ap, ◌∙◌}
use Rattle.std.specs.Prelude.{option_map}
use Rattle.command_codec.specs.FormRules.{form_asks}
use Rattle.command_codec.proofs.FormLaws.{form_fields, no_fields}
use Rattle.command_codec.proofs.body_forms.fields_of.Goals as goal

pub returns-in-Some : goal.returns-in-Some
returns-in-Some c = form_fields c.args.content (form_asks c.in-Some.form) (sym (ap (option_map form_asks) c.in-Some.is) ∙ c.form_of.ensures)

pub returns-in-None : goal.returns-in-None
returns-in-None c = no_fields c.args.content (sym (ap (option_map form_asks) c.in-None.is) ∙ c.form_of.ensures)

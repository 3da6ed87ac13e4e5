use Rattle.std.proofs.Common.{sym, ◌∙◌}
use Rattle.ctrl_model.specs.ShowCommands.{services_of}
use Rattle.show_commands.specs.ShownParts.{with_shown}
use Rattle.show_commands.proofs.ShownPlans.{unknown_said, known_said, services_said}
use Rattle.show_commands.proofs.showing.shown_services.Goals as goal

pub returns-in_default : goal.returns-in_default
returns-in_default c = λ s shows.
    unknown_said services_of c.args.identity.now (with_shown c.args.shown.now s) _ (sym c.identity_named.ensures ∙ c.in_default.is) c.unknown_identity.ensures

pub returns : goal.returns
returns c = λ s shows.
    known_said services_of c.args.identity.now (with_shown c.args.shown.now s) c.in-Some.number _ (sym c.identity_named.ensures ∙ c.in-Some.is)
    (services_said c.args.shown.now s c.in-Some.number c.of-names.result c.as_slice.result.now shows
    (c.of-names.ensures ∙ c.in_ok-names_of.ensures) (c.as_slice.ensures.value ∙ c.in_ok-dialled.ensures))

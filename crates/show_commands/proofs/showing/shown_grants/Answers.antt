use Rattle.std.proofs.Common.{sym, ◌∙◌}
use Rattle.ctrl_model.specs.ShowCommands.{grants_of}
use Rattle.show_commands.specs.ShownParts.{with_shown}
use Rattle.show_commands.proofs.ShownPlans.{unknown_said, known_said, grants_said}
use Rattle.show_commands.proofs.showing.shown_grants.Goals as goal

pub returns-in_default : goal.returns-in_default
returns-in_default c = λ s shows.
    unknown_said grants_of c.args.identity.now (with_shown c.args.shown.now s) _ (sym c.identity_named.ensures ∙ c.in_default.is) c.unknown_identity.ensures

pub returns : goal.returns
returns c = λ s shows.
    known_said grants_of c.args.identity.now (with_shown c.args.shown.now s) c.in-Some.number _ (sym c.identity_named.ensures ∙ c.in-Some.is)
    (grants_said c.args.shown.now s c.in-Some.number c.of.result c.of-2.result c.of-3.result shows
    (c.of.ensures ∙ c.in_ok-bind.ensures) (c.of-2.ensures ∙ c.in_ok-dial.ensures) (c.of-3.ensures ∙ c.in_ok-routers.ensures))

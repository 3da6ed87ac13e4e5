use Rattle.std.proofs.Common.{subst, sym, ◌∙◌, ap}
use Rattle.ctrl_model.specs.SpelledCommands.{is_spelled}
use Rattle.ctrl_model.specs.Controller.{carry}
use Rattle.terminator_commands.specs.TermChanges.{over}
use Rattle.terminator_commands.specs.TermPlans.{PlansTerms}
use Rattle.terminator_commands.proofs.SpelledTerms.{made_cost, updated_cost}
use Rattle.terminator_commands.proofs.planning.plan_terminator_command.Goals as goal

pub plan_create_terminator-requires : goal.plan_create_terminator-requires
plan_create_terminator-requires c =
    let made = c.in-CreateTerminator in
    made_cost made.service made.router made.instance made.host made.cost (ap is_spelled (sym made.is) ∙ c.requires)

pub plan_update_terminator-requires : goal.plan_update_terminator-requires
plan_update_terminator-requires c =
    let updated = c.in-UpdateTerminator in
    updated_cost updated.no updated.cost (ap is_spelled (sym updated.is) ∙ c.requires)

pub returns-in-UpdateTerminator-clause-plan : goal.returns-in-UpdateTerminator-clause-plan
returns-in-UpdateTerminator-clause-plan c = λ s counts.
    let t = c.args.entities.now in
    let k = c.args.terminators.now in
    subst (λ command. PlansTerms c.plan_update_terminator.result (carry command (over t k s)) (over t k s)) (sym c.in-UpdateTerminator.is)
    (c.plan_update_terminator.ensures (record s { identities = t.identities; services = t.services; routers = t.routers }))

pub returns-in-DeleteTerminator-clause-plan : goal.returns-in-DeleteTerminator-clause-plan
returns-in-DeleteTerminator-clause-plan c = λ s counts.
    let t = c.args.entities.now in
    let k = c.args.terminators.now in
    subst (λ command. PlansTerms c.plan_delete_terminator.result (carry command (over t k s)) (over t k s)) (sym c.in-DeleteTerminator.is)
    (c.plan_delete_terminator.ensures (record s { identities = t.identities; services = t.services; routers = t.routers }))

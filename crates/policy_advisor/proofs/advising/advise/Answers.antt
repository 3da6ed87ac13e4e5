use Rattle.std.proofs.Common.{ap, ◌∙◌, option_and_then}
use Rattle.std.proofs.lemmas.Result.{IfOk-weaker}
use Rattle.ctrl_model.specs.Numbered.{at}
use Rattle.circuit_rules.specs.Views.{network}
use Rattle.policy_advisor.specs.Advice.{advice_on, dial_marks}
use Rattle.policy_advisor.proofs.AdvisedParts.{advice-is, advised_there}
use Rattle.policy_advisor.proofs.advising.advise.Goals as goal

pub returns-clause-advice : goal.returns-clause-advice
returns-clause-advice c =
    let t = c.args.entities.now in
    let who = c.number_named-who.ensures in
    let what = c.number_named-what.ensures in
    let identity = c.entity_at.ensures ∙ ap (option_and_then (at t.identities.rows)) who in
    let service = c.entity_at-2.ensures ∙ ap (option_and_then (at t.services.rows)) what in
    let marks = c.of.ensures ∙ c.in_ok-marks.ensures ∙ (λ i. dial_marks (identity i) (service i) c.args.policies.now.service_policies.rows) in
    IfOk-weaker c.advice_by.result _ _ (λ a is s parts.
    is ∙ (λ i. advice_on (network c.args.view.now) (marks i) (who i) (what i))
    ∙ advice-is c.args.view.now t c.args.policies.now s parts c.args.identity.now c.args.service.now) c.advice_by.ensures

pub returns-clause-routers : goal.returns-clause-routers
returns-clause-routers c =
    IfOk-weaker c.advice_by.result _ _ (λ a is s parts.
    advised_there c.args.entities.now s c.args.identity.now c.args.service.now a parts.routers (is s parts)) (returns-clause-advice c)

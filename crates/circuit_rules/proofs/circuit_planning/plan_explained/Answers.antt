use Rattle.std.proofs.Common.{◌≡◌, sym, ◌∙◌, ap, subst, true}
use Rattle.ctrl_model.specs.declared.claims.Explanation.{Explanation}
use Rattle.ctrl_model.specs.declared.replies.Reply.TheVariants.{Explained}
use Rattle.ctrl_model.specs.CircuitCommands.{explain}
use Rattle.ctrl_model.specs.Numbered.{is_present}
use Rattle.circuit_rules.specs.Views.{asked}
use Rattle.model_laws.specs.Plans.{shown}
use Rattle.circuit_rules.specs.PlannedCircuits.{Answers, router_at}
use Rattle.circuit_rules.proofs.PresentLaws.{ingress_present}
use Rattle.circuit_rules.proofs.CircuitPlanLaws.{explanation_planned}
use Rattle.circuit_rules.proofs.circuit_planning.plan_explained.Goals as goal

pub router_name-requires : goal.router_name-requires
router_name-requires c =
    let x = c.requires.explained in
    subst (λ (e : Explanation). is_present c.args.parts.now.entities.now.routers.rows e.ingress.0 ≡ true) (sym x.explained)
    (ingress_present c.args.parts.now (asked c.args.ask.now) x.chosen x.is_best)

pub returns : goal.returns
returns c =
    let p = c.args.parts.now in
    let claim = c.args.claim in
    let name : c.in_ok-ingress.ingress ≡ router_at claim.ingress.0 p.entities.now = c.in_ok-ingress.ensures in
    let is : c.shown.result ≡ shown (Explained (router_at claim.ingress.0 p.entities.now) claim) = c.shown.ensures ∙ ap (λ n. shown (Explained n claim)) name in
    subst (Answers (explain (asked c.args.ask.now)) p) (sym is) (explanation_planned p (asked c.args.ask.now) claim c.requires.explained)

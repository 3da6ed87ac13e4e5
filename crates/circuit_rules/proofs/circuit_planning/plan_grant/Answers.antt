use Rattle.std.proofs.Common.{◌≡◌, sym, ap, subst, true}
use Rattle.std.specs.Option.{option_map}
use Rattle.ctrl_model.specs.declared.replies.Reply.TheVariants as reply
use Rattle.ctrl_model.specs.CircuitCommands.{create_circuit}
use Rattle.ctrl_model.specs.Numbered.{is_present}
use Rattle.circuit_rules.specs.declared.views.Route.{Route}
use Rattle.circuit_rules.specs.Views.{asked}
use Rattle.model_laws.specs.Plans.{changed}
use Rattle.ctrl_model.specs.State.{Circuit as Granted}
use Rattle.circuits.specs.declared.changes.CircuitChange.TheVariants as change
use Rattle.circuit_rules.specs.PlannedCircuits.{Answers, router_at}
use Rattle.circuit_rules.proofs.PresentLaws.{ingress_present}
use Rattle.circuit_rules.proofs.CircuitPlanLaws.{plan_of_grant, grant_planned}
use Rattle.circuit_rules.proofs.circuit_planning.plan_grant.Goals as goal

pub router_name-requires : goal.router_name-requires
router_name-requires c =
    let g = c.requires.granted in
    subst (λ (r : Route). is_present c.args.parts.now.entities.now.routers.rows r.ingress.0 ≡ true) (sym g.route)
    (ingress_present c.args.parts.now (asked c.args.ask.now) g.chosen g.is_best)

pub returns : goal.returns
returns c =
    let p = c.args.parts.now in
    let r = c.args.route in
    let number : c.next.result ≡ p.circuits.now.circuits.next = c.next.ensures.next in
    let name : c.in_ok-name.name ≡ router_at r.ingress.0 p.entities.now = c.in_ok-name.ensures in
    let links : c.in_ok-links.links ≡ r.links = c.in_ok-links.ensures in
    let circuit : Granted = record { identity = c.in-Some.identity.0; service = c.in-Some-service.service.0; terminator = r.terminator.0; ingress = r.ingress.0; links = r.links } in
    let is : changed (reply.Circuit (record { 0 = c.next.result }) c.in_ok-name.name c.in_ok-links.links r.terminator r.total) (change.Add circuit) ≡ plan_of_grant p r c.in-Some.identity c.in-Some-service.service =
    λ i. changed (reply.Circuit (record { 0 = number i }) (name i) (links i) r.terminator r.total) (change.Add circuit) in
    subst (Answers (create_circuit (asked c.args.ask.now)) p) (sym is)
    (grant_planned p (asked c.args.ask.now) r c.in-Some.identity c.in-Some-service.service (ap (option_map (λ i. i.0)) c.in-Some.is) (ap (option_map (λ s. s.0)) c.in-Some-service.is)
    c.requires.granted)

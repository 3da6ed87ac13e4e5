use Rattle.std.proofs.Common.{refl, sym, subst}
use Rattle.ctrl_model.specs.CircuitCommands.{verify_route}
use Rattle.circuit_rules.specs.PlannedCircuits.{Answers, with_entities, ask_at}
use Rattle.circuit_rules.proofs.CircuitPlanLaws.{asked_so, claim_planned}
use Rattle.circuit_rules.proofs.PresentLaws.{found_so}
use Rattle.circuit_rules.proofs.circuit_planning.plan_verify_route.Goals as goal

pub returns : goal.returns
returns c =
    let p = c.args.parts.now in
    let ask = ask_at c.args.request.now (with_entities p.entities.now) in
    asked_so (λ a. verify_route a c.args.chosen.now c.args.links.now c.args.potentials.now c.args.routers.now c.args.terminator c.args.total) ask c.args.request.now p c.shown-2.result refl
    (subst (Answers (verify_route ask c.args.chosen.now c.args.links.now c.args.potentials.now c.args.routers.now c.args.terminator c.args.total) p) (sym c.shown-2.ensures)
    (claim_planned p ask c.args.chosen.now c.args.links.now c.args.potentials.now c.args.routers.now c.args.terminator c.args.total c.in-Ok.ingress c.in_ok-certified.certified
    (found_so _ _ _ c.in-Ok.ensures.found) c.in_ok-certified.ensures))

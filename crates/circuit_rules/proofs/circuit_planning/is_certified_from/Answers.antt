use Rattle.std.proofs.Common.{◌≡◌, IfOk, subst}
use Rattle.ctrl_model.specs.Claims.{justified}
use Rattle.circuit_rules.specs.PlannedCircuits.{with_entities, ask_at, network_in}
use Rattle.circuit_rules.proofs.circuit_planning.is_certified_from.Goals as goal

pub returns : goal.returns
returns c =
    subst (λ claim. IfOk c.is_certified.result (λ yes. yes ≡ justified (network_in c.args.parts.now) (ask_at c.args.request.now (with_entities c.args.parts.now.entities.now)) claim))
    c.in_ok-claim.ensures c.is_certified.ensures

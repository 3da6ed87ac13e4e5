use Rattle.std.proofs.Common.{◌≡◌, IfOk, subst}
use Rattle.ctrl_model.specs.Claims.{justified}
use Rattle.circuit_rules.specs.PlannedCircuits.{network_in}
use Rattle.circuit_rules.proofs.circuit_planning.is_certified.Goals as goal

pub returns : goal.returns
returns c = subst (λ ask. IfOk c.verified.result (λ yes. yes ≡ justified (network_in c.args.parts.now) ask c.args.claim.now)) c.in_ok-ask.ensures c.verified.ensures

use Rattle.ctrl_model.specs.CircuitCommands.{claim_from}
use Rattle.circuit_rules.proofs.circuit_planning.claim_of.Goals as goal

pub returns : goal.returns
returns c = λ i. claim_from (c.in_ok-links.ensures i) (c.in_ok-potentials.ensures i) (c.in_ok-routers.ensures i) c.args.terminator c.args.total c.args.ingress

use Rattle.std.proofs.Common.{sym, subst}
use Rattle.ctrl_model.specs.Controller.{carry}
use Rattle.circuit_rules.specs.PlannedCircuits.{Answers}
use Rattle.circuit_rules.proofs.circuit_planning.plan_without_claim.Goals as goal

pub returns-in_ok-plan_create_circuit-in-CreateCircuit : goal.returns-in_ok-plan_create_circuit-in-CreateCircuit
returns-in_ok-plan_create_circuit-in-CreateCircuit c =
    subst (λ command. Answers (carry command) c.args.parts.now c.in_ok-plan_create_circuit-in-CreateCircuit.field-0) (sym c.in-CreateCircuit.is)
    c.in_ok-plan_create_circuit-in-CreateCircuit.ensures

pub returns-in_ok-plan_explain-in-Explain : goal.returns-in_ok-plan_explain-in-Explain
returns-in_ok-plan_explain-in-Explain c =
    subst (λ command. Answers (carry command) c.args.parts.now c.in_ok-plan_explain-in-Explain.field-0) (sym c.in-Explain.is) c.in_ok-plan_explain-in-Explain.ensures

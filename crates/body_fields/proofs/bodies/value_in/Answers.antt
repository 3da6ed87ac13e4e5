use Rattle.serde_json.specs.Errors.{IsMemory}
use Rattle.serde_json.specs.View.{view}
use Rattle.body_fields.proofs.BodyValues.{value_of_body-some, value_of_body-none}
use Rattle.body_fields.proofs.bodies.value_in.Goals as goal

pub returns-in-Ok-clause-value : goal.returns-in-Ok-clause-value
returns-in-Ok-clause-value c = value_of_body-some c.args.body.now (view c.in-Ok.value) c.in-Ok.ensures.ok.0 c.in-Ok.ensures.ok.1

pub returns-in-Err-clause-fault : goal.returns-in-Err-clause-fault
returns-in-Err-clause-fault c = λ other.
    let refused : ¬ IsMemory c.in-Err.error = λ m. other (c.fault_of.ensures.memory m) in
    (c.fault_of.ensures.form other, value_of_body-none c.args.body.now (c.in-Err.ensures.err refused))

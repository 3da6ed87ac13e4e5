use Rattle.body_fields.proofs.InterceptLaws.{address_not_bad}
use Rattle.body_fields.proofs.intercept_fields.address_of.Goals as goal

pub returns-in-Err-NoMemory-clause-memory : goal.returns-in-Err-NoMemory-clause-memory
returns-in-Err-NoMemory-clause-memory c = address_not_bad c.args.bytes.now c.of.result c.in-Err-NoMemory.field-0 c.in-Err-NoMemory.is c.in-Err-NoMemory.field-0-is c.of.ensures.bad

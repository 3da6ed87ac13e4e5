use Rattle.circuits.proofs.LossLaws.{goes_over-none}
use Rattle.circuits.proofs.losses.goes_over.Goals as goal

pub returns-else-not-is_empty : goal.returns-else-not-is_empty
returns-else-not-is_empty c = goes_over-none c.is_empty.result c.args.links.now c.args.circuit.now c.if-not-is_empty.false c.is_empty.ensures

use Rattle.std.proofs.Common.{arith}
use Rattle.ctrl_model.specs.declared.kinds.Kind.TheVariants as kind
use Rattle.model_laws.proofs.worked_laws.records_of_no_valid_state.Goals as goal

pub returns-clause-number_0 : goal.returns-clause-number_0
returns-clause-number_0 c v = let first = (v.kinds kind.Identity).numbers.first in absurd (omega (arith, first))

pub returns-clause-number_not_below_next : goal.returns-clause-number_not_below_next
returns-clause-number_not_below_next c v = let ordered = (v.kinds kind.Identity).numbers.ordered in let below = ordered.1 in absurd (omega (arith, below))

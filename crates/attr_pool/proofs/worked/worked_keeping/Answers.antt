use Rattle.std.proofs.Common.{codes, refl, arith}
use Rattle.std.proofs.lemmas.Bool.{both_ways}
use Rattle.attr_pool.proofs.worked.worked_keeping.Goals as goal

pub returns-clause-swapped : goal.returns-clause-swapped
returns-clause-swapped c = λ f. both_ways _ refl (f (codes "red") (omega arith) (omega arith) 0)

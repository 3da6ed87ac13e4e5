use Rattle.std.proofs.Common.{codes, arith}
use Rattle.attr_pool.proofs.worked.worked_uses.Goals as goal

pub returns-clause-not_so_often : goal.returns-clause-not_so_often
returns-clause-not_so_often c = λ f. let two = f (codes "blue") in omega (arith, two)

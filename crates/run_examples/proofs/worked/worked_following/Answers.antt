use Rattle.std.proofs.Common.{refl}
use Rattle.run_examples.proofs.worked.worked_following.Goals as goal

pub returns-clause-one : goal.returns-clause-one
returns-clause-one c = refl

pub returns-clause-two : goal.returns-clause-two
returns-clause-two c = refl

pub returns-clause-none : goal.returns-clause-none
returns-clause-none c = refl

pub returns-clause-stays : goal.returns-clause-stays
returns-clause-stays c = refl

pub returns-clause-untold : goal.returns-clause-untold
returns-clause-untold c = refl

use Rattle.std.proofs.Common.{refl}
use Rattle.std.specs.Fmt.{digits}
use Rattle.run_examples.proofs.worked.worked_words.Goals as goal

pub returns-clause-load : goal.returns-clause-load
unfolding digits
returns-clause-load c = refl

pub returns-clause-padded : goal.returns-clause-padded
unfolding digits
returns-clause-padded c = refl

pub returns-clause-ship : goal.returns-clause-ship
unfolding digits
returns-clause-ship c = refl

pub returns-clause-ship_all : goal.returns-clause-ship_all
unfolding digits
returns-clause-ship_all c = refl

pub returns-clause-ship_padded : goal.returns-clause-ship_padded
unfolding digits
returns-clause-ship_padded c = refl

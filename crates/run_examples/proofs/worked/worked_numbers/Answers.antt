use Rattle.std.proofs.Common.{refl}
use Rattle.std.specs.Fmt.{digits}
use Rattle.run_examples.proofs.worked.worked_numbers.Goals as goal

pub returns-clause-zero : goal.returns-clause-zero
unfolding digits
returns-clause-zero c = refl

pub returns-clause-seven : goal.returns-clause-seven
unfolding digits
returns-clause-seven c = refl

pub returns-clause-greatest : goal.returns-clause-greatest
unfolding digits
returns-clause-greatest c = refl

pub returns-clause-greater : goal.returns-clause-greater
unfolding digits
returns-clause-greater c = refl

pub returns-clause-padded : goal.returns-clause-padded
unfolding digits
returns-clause-padded c = refl

pub returns-clause-signed : goal.returns-clause-signed
unfolding digits
returns-clause-signed c = refl

pub returns-clause-letter : goal.returns-clause-letter
unfolding digits
returns-clause-letter c = refl

pub returns-clause-empty : goal.returns-clause-empty
unfolding digits
returns-clause-empty c = refl

pub returns-clause-greater_below_more : goal.returns-clause-greater_below_more
unfolding digits
returns-clause-greater_below_more c = refl

pub returns-clause-greatest_of_all : goal.returns-clause-greatest_of_all
unfolding digits
returns-clause-greatest_of_all c = refl

pub returns-clause-two_zeros : goal.returns-clause-two_zeros
unfolding digits
returns-clause-two_zeros c = refl

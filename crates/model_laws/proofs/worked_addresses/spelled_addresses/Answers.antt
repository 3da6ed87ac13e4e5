use Rattle.std.proofs.Common.{refl}
use Rattle.std.specs.Fmt.{digits}
use Rattle.model_laws.proofs.worked_addresses.spelled_addresses.Goals as goal

pub returns-clause-host : goal.returns-clause-host
unfolding digits
returns-clause-host c = refl

pub returns-clause-under : goal.returns-clause-under
unfolding digits
returns-clause-under c = refl

pub returns-clause-alone : goal.returns-clause-alone
unfolding digits
returns-clause-alone c = refl

pub returns-clause-eight : goal.returns-clause-eight
unfolding digits
returns-clause-eight c = refl

pub returns-clause-none : goal.returns-clause-none
unfolding digits
returns-clause-none c = refl

pub returns-clause-three_digits : goal.returns-clause-three_digits
unfolding digits
returns-clause-three_digits c = refl

use Rattle.std.proofs.Common.{refl}
use Rattle.std.specs.Fmt.{digits}
use Rattle.model_laws.proofs.worked_addresses.own_spellings.Goals as goal

pub returns-clause-host : goal.returns-clause-host
unfolding digits
returns-clause-host c = refl

pub returns-clause-capital : goal.returns-clause-capital
unfolding digits
returns-clause-capital c = refl

pub returns-clause-under : goal.returns-clause-under
unfolding digits
returns-clause-under c = refl

pub returns-clause-under_capital : goal.returns-clause-under_capital
unfolding digits
returns-clause-under_capital c = refl

pub returns-clause-alone : goal.returns-clause-alone
unfolding digits
returns-clause-alone c = refl

pub returns-clause-sixteen : goal.returns-clause-sixteen
unfolding digits
returns-clause-sixteen c = refl

pub returns-clause-all_bits : goal.returns-clause-all_bits
unfolding digits
returns-clause-all_bits c = refl

pub returns-clause-bits_past_the_range : goal.returns-clause-bits_past_the_range
unfolding digits
returns-clause-bits_past_the_range c = refl

pub returns-clause-no_bits : goal.returns-clause-no_bits
unfolding digits
returns-clause-no_bits c = refl

pub returns-clause-none : goal.returns-clause-none
unfolding digits
returns-clause-none c = refl

pub returns-clause-empty : goal.returns-clause-empty
unfolding digits
returns-clause-empty c = refl

pub returns-clause-range_alone : goal.returns-clause-range_alone
unfolding digits
returns-clause-range_alone c = refl

pub returns-clause-host_alone : goal.returns-clause-host_alone
unfolding digits
returns-clause-host_alone c = refl

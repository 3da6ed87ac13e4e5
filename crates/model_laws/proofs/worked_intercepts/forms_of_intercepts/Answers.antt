use Rattle.std.proofs.Common.{refl}
use Rattle.std.specs.Fmt.{digits}
use Rattle.model_laws.proofs.worked_intercepts.forms_of_intercepts.Goals as goal

pub returns-clause-is : goal.returns-clause-is
unfolding digits
returns-clause-is c = refl

pub returns-clause-of_ranges : goal.returns-clause-of_ranges
unfolding digits
returns-clause-of_ranges c = refl

pub returns-clause-no_protocol : goal.returns-clause-no_protocol
unfolding digits
returns-clause-no_protocol c = refl

pub returns-clause-no_address : goal.returns-clause-no_address
unfolding digits
returns-clause-no_address c = refl

pub returns-clause-no_ports : goal.returns-clause-no_ports
unfolding digits
returns-clause-no_ports c = refl

pub returns-clause-too_many : goal.returns-clause-too_many
unfolding digits
returns-clause-too_many c = refl

pub returns-clause-address_twice : goal.returns-clause-address_twice
unfolding digits
returns-clause-address_twice c = refl

pub returns-clause-ports_twice : goal.returns-clause-ports_twice
unfolding digits
returns-clause-ports_twice c = refl

pub returns-clause-port_0 : goal.returns-clause-port_0
unfolding digits
returns-clause-port_0 c = refl

pub returns-clause-turned : goal.returns-clause-turned
unfolding digits
returns-clause-turned c = refl

pub returns-clause-past : goal.returns-clause-past
unfolding digits
returns-clause-past c = refl

pub returns-clause-capital : goal.returns-clause-capital
unfolding digits
returns-clause-capital c = refl

pub returns-clause-bits_past_the_range : goal.returns-clause-bits_past_the_range
unfolding digits
returns-clause-bits_past_the_range c = refl

pub returns-clause-bits_33 : goal.returns-clause-bits_33
unfolding digits
returns-clause-bits_33 c = refl

pub returns-clause-text_of_a_range : goal.returns-clause-text_of_a_range
unfolding digits
returns-clause-text_of_a_range c = refl

use Rattle.std.proofs.Common.{refl}
use Rattle.std.specs.Fmt.{digits}
use Rattle.row_reading.proofs.RowLaws.{none_spelled}
use Rattle.row_reading.proofs.worked_spellings.worked_no_rows_of_two.Goals as goal

pub returns-clause-count_of_four_bytes : goal.returns-clause-count_of_four_bytes
returns-clause-count_of_four_bytes c = none_spelled _ _ _ refl

pub returns-clause-serial_of_none : goal.returns-clause-serial_of_none
returns-clause-serial_of_none c = none_spelled _ _ _ refl

pub returns-clause-serial_of_seven_bytes : goal.returns-clause-serial_of_seven_bytes
returns-clause-serial_of_seven_bytes c = none_spelled _ _ _ refl

pub returns-clause-no_protocol : goal.returns-clause-no_protocol
unfolding digits
returns-clause-no_protocol c = none_spelled _ _ _ refl

pub returns-clause-protocols_of_four : goal.returns-clause-protocols_of_four
unfolding digits
returns-clause-protocols_of_four c = none_spelled _ _ _ refl

pub returns-clause-no_address : goal.returns-clause-no_address
unfolding digits
returns-clause-no_address c = none_spelled _ _ _ refl

pub returns-clause-addresses_33 : goal.returns-clause-addresses_33
returns-clause-addresses_33 c = none_spelled _ _ _ refl

pub returns-clause-capital : goal.returns-clause-capital
unfolding digits
returns-clause-capital c = none_spelled _ _ _ refl

pub returns-clause-address_twice : goal.returns-clause-address_twice
unfolding digits
returns-clause-address_twice c = none_spelled _ _ _ refl

pub returns-clause-ports_from_0 : goal.returns-clause-ports_from_0
unfolding digits
returns-clause-ports_from_0 c = none_spelled _ _ _ refl

pub returns-clause-ports_turned : goal.returns-clause-ports_turned
unfolding digits
returns-clause-ports_turned c = none_spelled _ _ _ refl

pub returns-clause-bits_past_the_range : goal.returns-clause-bits_past_the_range
unfolding digits
returns-clause-bits_past_the_range c = none_spelled _ _ _ refl

pub returns-clause-all_bits : goal.returns-clause-all_bits
unfolding digits
returns-clause-all_bits c = none_spelled _ _ _ refl

pub returns-clause-serial_in_one : goal.returns-clause-serial_in_one
returns-clause-serial_in_one c = none_spelled _ _ _ refl

pub returns-clause-intercept_in_one : goal.returns-clause-intercept_in_one
returns-clause-intercept_in_one c = none_spelled _ _ _ refl

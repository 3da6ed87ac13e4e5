use Rattle.std.proofs.Common.{refl}
use Rattle.row_reading.proofs.RowLaws.{none_spelled}
use Rattle.row_reading.proofs.worked_spellings.worked_no_rows.Goals as goal

pub returns-clause-unused_mark : goal.returns-clause-unused_mark
returns-clause-unused_mark c = none_spelled _ _ _ refl

pub returns-clause-short_key : goal.returns-clause-short_key
returns-clause-short_key c = none_spelled _ _ _ refl

pub returns-clause-cut : goal.returns-clause-cut
returns-clause-cut c = none_spelled _ _ _ refl

pub returns-clause-next_of_one : goal.returns-clause-next_of_one
returns-clause-next_of_one c = none_spelled _ _ _ refl

pub returns-clause-cost_of_ten : goal.returns-clause-cost_of_ten
returns-clause-cost_of_ten c = none_spelled _ _ _ refl

pub returns-clause-count_of_none : goal.returns-clause-count_of_none
returns-clause-count_of_none c = none_spelled _ _ _ refl

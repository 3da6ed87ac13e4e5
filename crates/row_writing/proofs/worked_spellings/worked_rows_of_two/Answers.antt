use Rattle.std.proofs.Common.{refl}
use Rattle.std.specs.Fmt.{digits}
use Rattle.row_writing.proofs.worked_spellings.worked_rows_of_two.Goals as goal

pub returns-clause-form : goal.returns-clause-form
unfolding digits
returns-clause-form c = refl

pub returns-clause-api : goal.returns-clause-api
unfolding digits
returns-clause-api c = refl

use Rattle.std.proofs.Common.{refl}
use Rattle.std.specs.Fmt.{digits}
use Rattle.row_codec.proofs.worked.worked_intercept_values.Goals as goal

pub returns-clause-api : goal.returns-clause-api
unfolding digits
returns-clause-api c = refl

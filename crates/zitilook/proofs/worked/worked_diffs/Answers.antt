use Rattle.std.proofs.Common.{refl}
use Rattle.std.specs.Fmt.{digits}
use Rattle.zitilook.proofs.worked.worked_diffs.Goals as goal

pub returns-clause-damaged : goal.returns-clause-damaged
unfolding digits
returns-clause-damaged c = refl

use Rattle.std.proofs.Common.{refl}
use Rattle.std.specs.Fmt.{digits}
use Rattle.zitilook.proofs.worked.worked_plan_words.Goals as goal

pub returns-clause-fault : goal.returns-clause-fault
unfolding digits
returns-clause-fault c = refl

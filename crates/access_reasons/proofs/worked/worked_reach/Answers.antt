use Rattle.std.proofs.Common.{refl}
use Rattle.std.specs.Fmt.{digits}
use Rattle.access_reasons.proofs.worked.worked_reach.Goals as goal

pub returns-clause-reaches : goal.returns-clause-reaches
unfolding digits
returns-clause-reaches c = refl

pub returns-clause-hosted : goal.returns-clause-hosted
unfolding digits
returns-clause-hosted c = refl

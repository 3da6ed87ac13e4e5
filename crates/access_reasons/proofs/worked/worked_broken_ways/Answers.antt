use Rattle.std.proofs.Common.{refl}
use Rattle.std.specs.Fmt.{digits}
use Rattle.access_reasons.proofs.worked.worked_broken_ways.Goals as goal

pub returns-clause-no_terminator : goal.returns-clause-no_terminator
unfolding digits
returns-clause-no_terminator c = refl

pub returns-clause-terminator_offline : goal.returns-clause-terminator_offline
unfolding digits
returns-clause-terminator_offline c = refl

pub returns-clause-no_bind : goal.returns-clause-no_bind
unfolding digits
returns-clause-no_bind c = refl

use Rattle.std.proofs.Common.{refl}
use Rattle.std.specs.Fmt.{digits}
use Rattle.record_lines.proofs.worked.worked_intercepts.Goals as goal

pub returns : goal.returns
unfolding digits
returns c = record { two = refl; more = refl; none = refl }

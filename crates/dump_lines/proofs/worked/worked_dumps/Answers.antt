use Rattle.std.proofs.Common.{refl}
use Rattle.std.specs.Fmt.{digits}
use Rattle.dump_lines.proofs.worked.worked_dumps.Goals as goal

pub returns : goal.returns
unfolding digits
returns c = record { small = refl; worn = refl; again = refl }

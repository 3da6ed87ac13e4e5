use Rattle.std.proofs.Common.{refl}
use Rattle.std.specs.Fmt.{digits}
use Rattle.change_lines.proofs.worked.worked_changes.Goals as goal

pub returns : goal.returns
unfolding digits
returns c = record {
  cut = refl;
  staffed = refl;
  back = refl;
}

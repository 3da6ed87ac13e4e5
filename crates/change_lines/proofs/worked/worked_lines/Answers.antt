use Rattle.std.proofs.Common.{refl}
use Rattle.std.specs.Fmt.{digits}
use Rattle.change_lines.proofs.worked.worked_lines.Goals as goal

pub returns : goal.returns
unfolding digits
returns c = record {
  unclaimed = refl;
  claimed = refl;
  same = refl;
  start = refl;
}

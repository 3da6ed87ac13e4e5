use Rattle.std.proofs.Common.{refl}
use Rattle.std.specs.Fmt.{digits}
use Rattle.frame_lines.specs.NearNames.{near_name}
use Rattle.frame_lines.proofs.worked.worked_checks.Goals as goal

pub returns : goal.returns
unfolding digits near_name
returns c = record {
  left_out = refl;
  besides = refl;
  another = refl;
  other_case = refl;
  two_bytes = refl;
  nothing = refl;
  told = refl;
  first = refl;
  faultless = refl;
}

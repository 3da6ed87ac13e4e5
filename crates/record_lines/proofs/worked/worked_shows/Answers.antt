use Rattle.std.proofs.Common.{refl}
use Rattle.std.specs.Fmt.{digits}
use Rattle.record_lines.proofs.worked.worked_shows.Goals as goal

pub returns : goal.returns
unfolding digits
returns c = record {
  named = refl;
  other_kind = refl;
  number_of_a_named_one = refl;
  terminator = refl;
  circuit = refl;
  no_number = refl;
  no_name = refl;
  intercept = refl;
  no_intercept = refl;
}

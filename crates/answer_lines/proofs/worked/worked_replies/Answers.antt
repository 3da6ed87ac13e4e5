use Rattle.std.proofs.Common.{refl}
use Rattle.std.specs.Fmt.{digits}
use Rattle.answer_lines.proofs.worked.worked_replies.Goals as goal

pub returns : goal.returns
unfolding digits
returns c = record {
  ok = refl;
  refusal = refl;
  command = refl;
  other_case = refl;
  no_number = refl;
  zeros = refl;
  tagged = refl;
}

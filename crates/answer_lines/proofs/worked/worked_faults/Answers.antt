use Rattle.std.proofs.Common.{refl}
use Rattle.std.specs.Fmt.{digits}
use Rattle.answer_lines.proofs.worked.worked_faults.Goals as goal

pub returns : goal.returns
unfolding digits
returns c = record {
  request = refl;
  request_told = refl;
  request_refused = refl;
  reply = refl;
  reply_told = refl;
  second_mark = refl;
  faultless = refl;
  words = refl;
  reply_words = refl;
}

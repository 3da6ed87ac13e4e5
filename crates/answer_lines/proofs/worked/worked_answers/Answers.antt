use Rattle.std.proofs.Common.{refl}
use Rattle.std.specs.Fmt.{digits}
use Rattle.answer_lines.proofs.worked.worked_answers.Goals as goal

pub returns : goal.returns
unfolding digits
returns c = record {
  story = refl;
  story_refused = refl;
  mixed = refl;
  mixed_refused = refl;
  all_ok = refl;
  unanswered = refl;
  unanswered_refused = refl;
  stray = refl;
  stray_refused = refl;
  none = refl;
  none_refused = refl;
}

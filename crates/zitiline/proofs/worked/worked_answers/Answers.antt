use Rattle.std.proofs.Common.{refl}
use Rattle.std.specs.Fmt.{digits}
use Rattle.std.specs.Str.{is_utf8, chars}
use Rattle.frame_lines.specs.NearNames.{near_name}
use Rattle.zitiline.proofs.worked.worked_answers.Goals as goal

pub returns : goal.returns
unfolding digits near_name is_utf8 chars lib.Utf8.encode
returns c = record {
  encoded = refl;
  ends = refl;
  before_the_fault = refl;
  faulty = refl;
  line_noted = refl;
  decoded = refl;
  cut = refl;
  cut_noted = refl;
  traced = refl;
  trace_noted = refl;
  told = refl;
  told_noted = refl;
  checked = refl;
  check_noted = refl;
  check_ends = refl;
  answered = refl;
  answered_refused = refl;
  answered_ends = refl;
  refused_notes = refl;
  no_reply_noted = refl;
  fault_noted = refl;
}

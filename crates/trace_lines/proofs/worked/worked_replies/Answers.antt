use Rattle.std.proofs.Common.{refl}
use Rattle.std.specs.Fmt.{digits}
use Rattle.std.specs.Str.{is_utf8, chars}
use Rattle.trace_lines.proofs.worked.worked_replies.Goals as goal

pub returns : goal.returns
unfolding digits is_utf8 chars lib.Utf8.encode
returns c = record {
  one = refl;
  one_fault = refl;
  two = refl;
  untagged = refl;
  untagged_fault = refl;
  tag_alone = refl;
  cut = refl;
  marker = refl;
  none = refl;
  words = refl;
  frame_words = refl;
}

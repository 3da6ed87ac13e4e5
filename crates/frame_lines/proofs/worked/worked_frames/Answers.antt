use Rattle.std.proofs.Common.{refl}
use Rattle.std.specs.Fmt.{digits}
use Rattle.std.specs.Str.{is_utf8, chars}
use Rattle.frame_lines.proofs.worked.worked_frames.Goals as goal

pub returns : goal.returns
unfolding digits is_utf8 chars lib.Utf8.encode
returns c = record {
  two = refl;
  two_fault = refl;
  back = refl;
  marker = refl;
  marker_fault = refl;
  cut_fault = refl;
  headers_fault = refl;
  words = refl;
  more_words = refl;
}

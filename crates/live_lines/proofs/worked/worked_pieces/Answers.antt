use Rattle.std.proofs.Common.{refl}
use Rattle.std.specs.Fmt.{digits}
use Rattle.std.specs.Str.{is_utf8, chars}
use Rattle.live_lines.proofs.worked.worked_pieces.Goals as goal

pub returns : goal.returns
unfolding digits is_utf8 chars lib.Utf8.encode
returns c = record {
  a_byte_lacks = refl;
  whole = refl;
  whole_and_cut = refl;
  cut = refl;
  tag_alone = refl;
  behind_a_fault = refl;
  no_tag = refl;
  nothing = refl;
}

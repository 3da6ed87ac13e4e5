use Rattle.std.proofs.Common.{refl}
use Rattle.std.specs.Fmt.{digits}
use Rattle.std.specs.Str.{is_utf8, chars}
use Rattle.frame_lines.proofs.worked.worked_tellings.Goals as goal

pub returns : goal.returns
unfolding digits is_utf8 chars lib.Utf8.encode
returns c = record {
  ann = refl;
  reply = refl;
  refusal = refl;
  no_reply = refl;
  piece = refl;
  next_piece = refl;
  no_piece = refl;
  headers = refl;
  newline = refl;
  carriage_return = refl;
  carriage_return_within = refl;
  not_text = refl;
}

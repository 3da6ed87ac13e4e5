use Rattle.std.proofs.Common.{refl}
use Rattle.std.specs.Fmt.{digits}
use Rattle.std.specs.Str.{is_utf8, chars}
use Rattle.trace_lines.proofs.worked.worked_trace.Goals as goal

pub returns : goal.returns
unfolding digits is_utf8 chars lib.Utf8.encode
returns c = record {
  one = refl;
  one_records = refl;
  one_fault = refl;
  two = refl;
  two_fault = refl;
  twice = refl;
  again = refl;
  unopened = refl;
  words = refl;
  line_words = refl;
}

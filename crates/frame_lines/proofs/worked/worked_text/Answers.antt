use Rattle.std.proofs.Common.{refl}
use Rattle.std.specs.Fmt.{digits}
use Rattle.frame_lines.proofs.worked.worked_text.Goals as goal

pub returns : goal.returns
unfolding digits
returns c = record { frames = refl; fault = refl; ann = refl; no_fault = refl; words = refl }

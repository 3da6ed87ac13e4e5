use Rattle.std.proofs.Common.{refl}
use Rattle.frame_lines.proofs.types.types.Goals as goal

pub returns : goal.returns
returns c = refl

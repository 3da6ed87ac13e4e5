use Rattle.frame_lines.proofs.KindLaws.{frames_in_order}
use Rattle.frame_lines.proofs.frames.FramesLineKind.in_order.Goals as goal

pub returns : goal.returns
returns c = frames_in_order

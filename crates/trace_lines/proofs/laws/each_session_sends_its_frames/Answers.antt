use Rattle.trace_lines.proofs.SendLaws.{session_sends}
use Rattle.trace_lines.proofs.laws.each_session_sends_its_frames.Goals as goal

pub returns : goal.returns
returns c = session_sends

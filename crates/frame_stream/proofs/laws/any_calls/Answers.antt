use Rattle.frame_stream.proofs.CallLaws.{reads_alike}
use Rattle.frame_stream.proofs.laws.any_calls.Goals as goal

pub returns : goal.returns
returns c = reads_alike

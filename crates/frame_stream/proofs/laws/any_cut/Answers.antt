use Rattle.frame_stream.proofs.CallLaws.{has_read, cut_alike}
use Rattle.frame_stream.proofs.laws.any_cut.Goals as goal

pub returns-clause-read : goal.returns-clause-read
returns-clause-read c = has_read

pub returns-clause-alike : goal.returns-clause-alike
returns-clause-alike c = cut_alike

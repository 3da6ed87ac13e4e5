use Rattle.frame_stream.proofs.CallLaws.{out_none, out_met}
use Rattle.frame_stream.proofs.laws.what_is_left.Goals as goal

pub returns-clause-none : goal.returns-clause-none
returns-clause-none c = out_none

pub returns-clause-met : goal.returns-clause-met
returns-clause-met c = out_met

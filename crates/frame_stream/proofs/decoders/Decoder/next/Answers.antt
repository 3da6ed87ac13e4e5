use Rattle.std.proofs.Common.{rules}
use Rattle.frame_stream.proofs.decoders.Decoder.next.Goals as goal

pub returns-in-Whole-clause-gives : goal.returns-in-Whole-clause-gives
returns-in-Whole-clause-gives c = search rules

pub returns-in-Bad-clause-gives : goal.returns-in-Bad-clause-gives
returns-in-Bad-clause-gives c = search rules

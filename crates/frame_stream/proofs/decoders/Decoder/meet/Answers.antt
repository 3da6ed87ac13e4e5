use Rattle.std.proofs.Common.{rules}
use Rattle.frame_stream.proofs.decoders.Decoder.meet.Goals as goal

pub returns : goal.returns
returns c = search rules

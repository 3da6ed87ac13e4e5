use Rattle.load_gen.proofs.LoadLengths.{frames_of_load}
use Rattle.load_gen.proofs.worked.how_many_frames.Goals as goal

pub returns : goal.returns
returns c = frames_of_load

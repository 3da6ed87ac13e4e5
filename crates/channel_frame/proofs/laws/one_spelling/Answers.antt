use Rattle.channel_frame.proofs.FrontLaws.{spelled_apart}
use Rattle.channel_frame.proofs.laws.one_spelling.Goals as goal

pub returns : goal.returns
returns c = record { apart = spelled_apart }

use Rattle.slot_files.proofs.StandLaws.{one_stands}
use Rattle.slot_files.proofs.laws.one_standing.Goals as goal

pub returns : goal.returns
returns c = one_stands

use Rattle.slot_files.proofs.StandLaws.{found_stands, append_stands, same_stands}
use Rattle.slot_files.proofs.SwitchLaws.{switched_stands, switched_alike}
use Rattle.slot_files.proofs.laws.standing_goes_on.Goals as goal

pub returns-clause-found : goal.returns-clause-found
returns-clause-found c = found_stands

pub returns-clause-stopped : goal.returns-clause-stopped
returns-clause-stopped c = append_stands

pub returns-clause-other : goal.returns-clause-other
returns-clause-other c = same_stands

pub returns-clause-switched : goal.returns-clause-switched
returns-clause-switched c = switched_stands

pub returns-clause-switched_alike : goal.returns-clause-switched_alike
returns-clause-switched_alike c = switched_alike

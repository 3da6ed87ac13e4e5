use Rattle.model_laws.proofs.ValidCommands.{answer-granted}
use Rattle.model_laws.proofs.validity.granted_circuits_stay_granted.Goals as goal

pub returns : goal.returns
returns c = record { at_start = λ row m. absurd m; stays = answer-granted }

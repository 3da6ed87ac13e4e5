use Rattle.model_laws.proofs.SameStateLaws.{same_state-Decides}
use Rattle.model_laws.proofs.state_laws.same_states_are_equal_states.Goals as goal

pub returns : goal.returns
returns c = same_state-Decides

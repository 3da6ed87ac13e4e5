use Rattle.model_laws.proofs.RefusedStates.{answer-leaves}
use Rattle.model_laws.proofs.state_laws.refused_leaves_the_state.Goals as goal

pub returns : goal.returns
returns c = answer-leaves

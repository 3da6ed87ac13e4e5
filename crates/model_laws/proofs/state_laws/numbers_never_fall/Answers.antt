use Rattle.model_laws.proofs.NextNumbers.{answer-none_falls}
use Rattle.model_laws.proofs.state_laws.numbers_never_fall.Goals as goal

pub returns : goal.returns
returns c = answer-none_falls

use Rattle.model_laws.proofs.HitLaws.{same_hit}
use Rattle.model_laws.proofs.intercept_laws.one_hit_a_rank.Goals as goal

pub returns : goal.returns
returns c = same_hit

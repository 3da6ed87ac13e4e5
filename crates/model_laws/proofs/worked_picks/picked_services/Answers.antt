use Rattle.std.proofs.Common.{refl}
use Rattle.std.specs.Fmt.{digits}
use Rattle.model_laws.proofs.worked_picks.picked_services.Goals as goal

pub returns-clause-more_bits : goal.returns-clause-more_bits
unfolding digits
returns-clause-more_bits c = refl

pub returns-clause-outside : goal.returns-clause-outside
unfolding digits
returns-clause-outside c = refl

pub returns-clause-not_dialled : goal.returns-clause-not_dialled
unfolding digits
returns-clause-not_dialled c = refl

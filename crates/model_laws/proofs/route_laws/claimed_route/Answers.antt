use Rattle.model_laws.proofs.ClaimLaws.{claimed_is_candidate, valid-candidate}
use Rattle.model_laws.proofs.route_laws.claimed_route.Goals as goal

pub returns-clause-apart : goal.returns-clause-apart
returns-clause-apart c = claimed_is_candidate

pub returns-clause-valid : goal.returns-clause-valid
returns-clause-valid c = valid-candidate

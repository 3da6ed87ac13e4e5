use Rattle.model_laws.proofs.JudgedLaws.{ends-identity, ends-service, ends-terminator, ends-no_path, goes-stays, goes-least}
use Rattle.model_laws.proofs.state_laws.each_circuit_is_judged.Goals as goal

pub returns-clause-no_identity : goal.returns-clause-no_identity
returns-clause-no_identity c = ends-identity

pub returns-clause-no_service : goal.returns-clause-no_service
returns-clause-no_service c = ends-service

pub returns-clause-no_terminator : goal.returns-clause-no_terminator
returns-clause-no_terminator c = ends-terminator

pub returns-clause-stays : goal.returns-clause-stays
returns-clause-stays c = goes-stays

pub returns-clause-goes_over_the_least : goal.returns-clause-goes_over_the_least
returns-clause-goes_over_the_least c = goes-least

pub returns-clause-no_path : goal.returns-clause-no_path
returns-clause-no_path c = ends-no_path

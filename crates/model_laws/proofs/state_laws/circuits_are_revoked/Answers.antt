use Rattle.model_laws.proofs.RevokedLaws.{revoked-identity, revoked-service, revoked-dial, revoked-ingress, revoked-terminator, revoked-not_admissible, kept-granted}
use Rattle.model_laws.proofs.state_laws.circuits_are_revoked.Goals as goal

pub returns-clause-no_identity : goal.returns-clause-no_identity
returns-clause-no_identity c = revoked-identity

pub returns-clause-no_service : goal.returns-clause-no_service
returns-clause-no_service c = revoked-service

pub returns-clause-no_dial : goal.returns-clause-no_dial
returns-clause-no_dial c = revoked-dial

pub returns-clause-no_ingress : goal.returns-clause-no_ingress
returns-clause-no_ingress c = revoked-ingress

pub returns-clause-no_terminator : goal.returns-clause-no_terminator
returns-clause-no_terminator c = revoked-terminator

pub returns-clause-not_admissible : goal.returns-clause-not_admissible
returns-clause-not_admissible c = revoked-not_admissible

pub returns-clause-stays : goal.returns-clause-stays
returns-clause-stays c = kept-granted

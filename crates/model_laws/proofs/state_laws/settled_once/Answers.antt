use Rattle.model_laws.proofs.RevokedLaws.{revoke-settle, settle-settle}
use Rattle.model_laws.proofs.SettleLaws.{repair-repair}
use Rattle.model_laws.proofs.state_laws.settled_once.Goals as goal

pub returns-clause-repaired : goal.returns-clause-repaired
returns-clause-repaired c = repair-repair

pub returns-clause-granted : goal.returns-clause-granted
returns-clause-granted c = revoke-settle

pub returns-clause-settled : goal.returns-clause-settled
returns-clause-settled c = settle-settle

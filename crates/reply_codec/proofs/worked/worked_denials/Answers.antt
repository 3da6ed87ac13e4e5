use Rattle.std.proofs.Common.{refl}
use Rattle.std.specs.Fmt.{digits}
use Rattle.serde_json.proofs.OnLiterals.{serde_json_on_literals}
use Rattle.reply_codec.proofs.worked.worked_denials.Goals as goal

pub returns-clause-unknown_identity : goal.returns-clause-unknown_identity
unfolding serde_json_on_literals digits
returns-clause-unknown_identity c = refl

pub returns-clause-unknown_service : goal.returns-clause-unknown_service
unfolding serde_json_on_literals digits
returns-clause-unknown_service c = refl

pub returns-clause-unknown_router : goal.returns-clause-unknown_router
unfolding serde_json_on_literals digits
returns-clause-unknown_router c = refl

pub returns-clause-no_dial : goal.returns-clause-no_dial
unfolding serde_json_on_literals digits
returns-clause-no_dial c = refl

pub returns-clause-no_shared_router : goal.returns-clause-no_shared_router
unfolding serde_json_on_literals digits
returns-clause-no_shared_router c = refl

pub returns-clause-offline : goal.returns-clause-offline
unfolding serde_json_on_literals digits
returns-clause-offline c = refl

pub returns-clause-no_terminators : goal.returns-clause-no_terminators
unfolding serde_json_on_literals digits
returns-clause-no_terminators c = refl

pub returns-clause-no_admissible : goal.returns-clause-no_admissible
unfolding serde_json_on_literals digits
returns-clause-no_admissible c = refl

pub returns-clause-no_path : goal.returns-clause-no_path
unfolding serde_json_on_literals digits
returns-clause-no_path c = refl

pub returns-clause-circuits_full : goal.returns-clause-circuits_full
unfolding serde_json_on_literals digits
returns-clause-circuits_full c = refl

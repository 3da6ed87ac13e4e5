use Rattle.std.proofs.Common.{refl}
use Rattle.std.specs.Fmt.{digits}
use Rattle.serde_json.proofs.OnLiterals.{serde_json_on_literals}
use Rattle.reply_codec.proofs.worked.worked_refusals.Goals as goal

pub returns-clause-missing_name : goal.returns-clause-missing_name
unfolding serde_json_on_literals digits
returns-clause-missing_name c = refl

pub returns-clause-no_object : goal.returns-clause-no_object
unfolding serde_json_on_literals digits
returns-clause-no_object c = refl

pub returns-clause-unknown : goal.returns-clause-unknown
unfolding serde_json_on_literals digits
returns-clause-unknown c = refl

pub returns-clause-unknown_ref : goal.returns-clause-unknown_ref
unfolding serde_json_on_literals digits
returns-clause-unknown_ref c = refl

pub returns-clause-full : goal.returns-clause-full
unfolding serde_json_on_literals digits
returns-clause-full c = refl

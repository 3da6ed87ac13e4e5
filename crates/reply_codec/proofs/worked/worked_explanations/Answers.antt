use Rattle.std.proofs.Common.{refl}
use Rattle.std.specs.Fmt.{digits}
use Rattle.serde_json.proofs.OnLiterals.{serde_json_on_literals}
use Rattle.reply_codec.proofs.worked.worked_explanations.Goals as goal

pub returns-clause-explained : goal.returns-clause-explained
unfolding serde_json_on_literals digits
returns-clause-explained c = refl

pub returns-clause-no_path : goal.returns-clause-no_path
unfolding serde_json_on_literals digits
returns-clause-no_path c = refl

pub returns-clause-verified : goal.returns-clause-verified
unfolding serde_json_on_literals digits
returns-clause-verified c = refl

pub returns-clause-not_verified : goal.returns-clause-not_verified
unfolding serde_json_on_literals digits
returns-clause-not_verified c = refl

use Rattle.std.proofs.Common.{refl}
use Rattle.std.specs.Fmt.{digits}
use Rattle.std.specs.Str.{is_utf8, chars}
use Rattle.serde_json.proofs.OnLiterals.{serde_json_on_literals}
use Rattle.run_examples.proofs.worked.worked_circuits.Goals as goal

pub returns-clause-granted : goal.returns-clause-granted
unfolding serde_json_on_literals is_utf8 chars digits
returns-clause-granted c = refl

pub returns-clause-ended : goal.returns-clause-ended
unfolding serde_json_on_literals is_utf8 chars digits
returns-clause-ended c = refl

pub returns-clause-denied : goal.returns-clause-denied
unfolding serde_json_on_literals is_utf8 chars digits
returns-clause-denied c = refl

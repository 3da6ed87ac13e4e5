use Rattle.std.proofs.Common.{refl}
use Rattle.std.specs.Fmt.{digits}
use Rattle.serde_json.proofs.OnLiterals.{serde_json_on_literals}
use Rattle.reply_codec.proofs.worked.worked_bodies.Goals as goal

pub returns-clause-done : goal.returns-clause-done
unfolding serde_json_on_literals digits
returns-clause-done c = refl

pub returns-clause-made : goal.returns-clause-made
unfolding serde_json_on_literals digits
returns-clause-made c = refl

pub returns-clause-circuit : goal.returns-clause-circuit
unfolding serde_json_on_literals digits
returns-clause-circuit c = refl

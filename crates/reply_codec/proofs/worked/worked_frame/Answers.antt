use Rattle.std.proofs.Common.{refl}
use Rattle.std.specs.Fmt.{digits}
use Rattle.serde_json.proofs.OnLiterals.{serde_json_on_literals}
use Rattle.reply_codec.proofs.worked.worked_frame.Goals as goal

pub returns-clause-bytes : goal.returns-clause-bytes
unfolding serde_json_on_literals digits
returns-clause-bytes c = refl

pub returns-clause-count : goal.returns-clause-count
unfolding serde_json_on_literals digits
returns-clause-count c = refl

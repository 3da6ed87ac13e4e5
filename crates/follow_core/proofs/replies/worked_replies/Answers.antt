use Rattle.std.proofs.Common.{refl}
use Rattle.std.specs.Fmt.{digits}
use Rattle.serde_json.proofs.OnLiterals.{serde_json_on_literals}
use Rattle.follow_core.proofs.replies.worked_replies.Goals as goal

pub returns-clause-took : goal.returns-clause-took
unfolding serde_json_on_literals digits
returns-clause-took c = refl

pub returns-clause-len : goal.returns-clause-len
unfolding serde_json_on_literals digits
returns-clause-len c = refl

pub returns-clause-differs : goal.returns-clause-differs
unfolding serde_json_on_literals digits
returns-clause-differs c = refl

pub returns-clause-ahead : goal.returns-clause-ahead
unfolding serde_json_on_literals digits
returns-clause-ahead c = refl

pub returns-clause-bad : goal.returns-clause-bad
unfolding serde_json_on_literals digits
returns-clause-bad c = refl

pub returns-clause-bad_batch : goal.returns-clause-bad_batch
unfolding serde_json_on_literals digits
returns-clause-bad_batch c = refl

pub returns-clause-skipped : goal.returns-clause-skipped
unfolding serde_json_on_literals digits
returns-clause-skipped c = refl

pub returns-clause-full : goal.returns-clause-full
unfolding serde_json_on_literals digits
returns-clause-full c = refl

pub returns-clause-mark_full : goal.returns-clause-mark_full
unfolding serde_json_on_literals digits
returns-clause-mark_full c = refl

pub returns-clause-repeat : goal.returns-clause-repeat
unfolding serde_json_on_literals digits
returns-clause-repeat c = refl

pub returns-clause-old : goal.returns-clause-old
unfolding serde_json_on_literals digits
returns-clause-old c = refl

pub returns-clause-piece : goal.returns-clause-piece
unfolding serde_json_on_literals digits
returns-clause-piece c = refl

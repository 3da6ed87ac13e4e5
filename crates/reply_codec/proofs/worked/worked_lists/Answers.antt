use Rattle.std.proofs.Common.{refl}
use Rattle.std.specs.Fmt.{digits}
use Rattle.serde_json.proofs.OnLiterals.{serde_json_on_literals}
use Rattle.reply_codec.proofs.worked.worked_lists.Goals as goal

pub returns-clause-services : goal.returns-clause-services
unfolding serde_json_on_literals digits
returns-clause-services c = refl

pub returns-clause-grants : goal.returns-clause-grants
unfolding serde_json_on_literals digits
returns-clause-grants c = refl

pub returns-clause-shown : goal.returns-clause-shown
unfolding serde_json_on_literals digits
returns-clause-shown c = refl

pub returns-clause-counts : goal.returns-clause-counts
unfolding serde_json_on_literals digits
returns-clause-counts c = refl

pub returns-clause-picked : goal.returns-clause-picked
unfolding serde_json_on_literals digits
returns-clause-picked c = refl

pub returns-clause-clashes : goal.returns-clause-clashes
unfolding serde_json_on_literals digits
returns-clause-clashes c = refl

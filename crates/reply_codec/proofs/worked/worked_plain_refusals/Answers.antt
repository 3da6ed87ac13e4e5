use Rattle.std.proofs.Common.{refl}
use Rattle.std.specs.Fmt.{digits}
use Rattle.serde_json.proofs.OnLiterals.{serde_json_on_literals}
use Rattle.reply_codec.proofs.worked.worked_plain_refusals.Goals as goal

pub returns-clause-unsupported : goal.returns-clause-unsupported
unfolding serde_json_on_literals digits
returns-clause-unsupported c = refl

pub returns-clause-not_permitted : goal.returns-clause-not_permitted
unfolding serde_json_on_literals digits
returns-clause-not_permitted c = refl

pub returns-clause-exists : goal.returns-clause-exists
unfolding serde_json_on_literals digits
returns-clause-exists c = refl

pub returns-clause-same_router : goal.returns-clause-same_router
unfolding serde_json_on_literals digits
returns-clause-same_router c = refl

pub returns-clause-not_bindable : goal.returns-clause-not_bindable
unfolding serde_json_on_literals digits
returns-clause-not_bindable c = refl

pub returns-clause-journal_full : goal.returns-clause-journal_full
unfolding serde_json_on_literals digits
returns-clause-journal_full c = refl

pub returns-clause-mark_full : goal.returns-clause-mark_full
unfolding serde_json_on_literals digits
returns-clause-mark_full c = refl

pub returns-clause-no_intercept : goal.returns-clause-no_intercept
unfolding serde_json_on_literals digits
returns-clause-no_intercept c = refl

use Rattle.std.proofs.Common.{refl}
use Rattle.std.specs.Fmt.{digits}
use Rattle.std.specs.Str.{is_utf8, chars}
use Rattle.serde_json.proofs.OnLiterals.{serde_json_on_literals}
use Rattle.change_plans.proofs.worked.worked_answers.Goals as goal

pub returns-clause-counted : goal.returns-clause-counted
unfolding serde_json_on_literals is_utf8 chars digits
returns-clause-counted c = refl

pub returns-clause-same : goal.returns-clause-same
unfolding serde_json_on_literals is_utf8 chars digits
returns-clause-same c = refl

pub returns-clause-none : goal.returns-clause-none
unfolding serde_json_on_literals is_utf8 chars digits
returns-clause-none c = refl

pub returns-clause-last : goal.returns-clause-last
unfolding serde_json_on_literals is_utf8 chars digits
returns-clause-last c = refl

pub returns-clause-last_same : goal.returns-clause-last_same
unfolding serde_json_on_literals is_utf8 chars digits
returns-clause-last_same c = refl

pub returns-clause-last_asked : goal.returns-clause-last_asked
unfolding serde_json_on_literals is_utf8 chars digits
returns-clause-last_asked c = refl

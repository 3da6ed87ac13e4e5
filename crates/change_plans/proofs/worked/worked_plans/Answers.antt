use Rattle.std.proofs.Common.{refl}
use Rattle.std.specs.Fmt.{digits}
use Rattle.std.specs.Str.{is_utf8, chars}
use Rattle.serde_json.proofs.OnLiterals.{serde_json_on_literals}
use Rattle.change_plans.proofs.worked.worked_plans.Goals as goal

pub returns-clause-seven : goal.returns-clause-seven
unfolding serde_json_on_literals is_utf8 chars digits
returns-clause-seven c = refl

pub returns-clause-told : goal.returns-clause-told
unfolding serde_json_on_literals is_utf8 chars digits
returns-clause-told c = refl

pub returns-clause-empty : goal.returns-clause-empty
unfolding serde_json_on_literals is_utf8 chars digits
returns-clause-empty c = refl

pub returns-clause-cut : goal.returns-clause-cut
unfolding serde_json_on_literals is_utf8 chars digits
returns-clause-cut c = refl

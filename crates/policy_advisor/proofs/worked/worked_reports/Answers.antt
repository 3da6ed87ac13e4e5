use Rattle.std.proofs.Common.{refl}
use Rattle.std.specs.Fmt.{digits}
use Rattle.serde_json.proofs.OnLiterals.{serde_json_on_literals}
use Rattle.policy_advisor.proofs.worked.worked_reports.Goals as goal

pub returns-clause-yes : goal.returns-clause-yes
unfolding serde_json_on_literals digits
returns-clause-yes c = refl

pub returns-clause-no : goal.returns-clause-no
unfolding serde_json_on_literals digits
returns-clause-no c = refl

pub returns-clause-absent : goal.returns-clause-absent
unfolding serde_json_on_literals digits
returns-clause-absent c = refl

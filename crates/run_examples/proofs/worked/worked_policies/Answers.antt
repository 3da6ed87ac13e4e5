use Rattle.std.proofs.Common.{refl}
use Rattle.std.specs.Fmt.{digits}
use Rattle.std.specs.Str.{is_utf8, chars}
use Rattle.serde_json.proofs.OnLiterals.{serde_json_on_literals}
use Rattle.run_examples.proofs.worked.worked_policies.Goals as goal

pub returns-clause-once : goal.returns-clause-once
unfolding serde_json_on_literals is_utf8 chars digits
returns-clause-once c = refl

pub returns-clause-twice : goal.returns-clause-twice
unfolding serde_json_on_literals is_utf8 chars digits
returns-clause-twice c = refl

pub returns-clause-once_again : goal.returns-clause-once_again
unfolding serde_json_on_literals is_utf8 chars digits
returns-clause-once_again c = refl

pub returns-clause-listed : goal.returns-clause-listed
unfolding serde_json_on_literals is_utf8 chars digits
returns-clause-listed c = refl

pub returns-clause-none : goal.returns-clause-none
unfolding serde_json_on_literals is_utf8 chars digits
returns-clause-none c = refl

pub returns-clause-another : goal.returns-clause-another
unfolding serde_json_on_literals is_utf8 chars digits
returns-clause-another c = refl

pub returns-clause-counted : goal.returns-clause-counted
unfolding serde_json_on_literals is_utf8 chars digits
returns-clause-counted c = refl

pub returns-clause-beside : goal.returns-clause-beside
unfolding serde_json_on_literals is_utf8 chars digits
returns-clause-beside c = refl

pub returns-clause-absent : goal.returns-clause-absent
unfolding serde_json_on_literals is_utf8 chars digits
returns-clause-absent c = refl

use Rattle.std.proofs.Common.{refl}
use Rattle.std.specs.Fmt.{digits}
use Rattle.std.specs.Str.{is_utf8, chars}
use Rattle.serde_json.proofs.OnLiterals.{serde_json_on_literals}
use Rattle.run_examples.proofs.worked.worked_runs.Goals as goal

pub returns-clause-once : goal.returns-clause-once
unfolding serde_json_on_literals is_utf8 chars digits
returns-clause-once c = refl

pub returns-clause-twice : goal.returns-clause-twice
unfolding serde_json_on_literals is_utf8 chars digits
returns-clause-twice c = refl

pub returns-clause-before_a_tail : goal.returns-clause-before_a_tail
unfolding serde_json_on_literals is_utf8 chars digits
returns-clause-before_a_tail c = refl

use Rattle.std.proofs.Common.{refl}
use Rattle.std.specs.Fmt.{digits}
use Rattle.std.specs.Str.{is_utf8, chars}
use Rattle.serde_json.proofs.OnLiterals.{serde_json_on_literals}
use Rattle.run_examples.proofs.worked.worked_networks.Goals as goal

pub returns-clause-standing : goal.returns-clause-standing
unfolding serde_json_on_literals is_utf8 chars digits
returns-clause-standing c = refl

pub returns-clause-gone : goal.returns-clause-gone
unfolding serde_json_on_literals is_utf8 chars digits
returns-clause-gone c = refl

pub returns-clause-same : goal.returns-clause-same
unfolding serde_json_on_literals is_utf8 chars digits
returns-clause-same c = refl

pub returns-clause-taken : goal.returns-clause-taken
unfolding serde_json_on_literals is_utf8 chars digits
returns-clause-taken c = refl

pub returns-clause-absent : goal.returns-clause-absent
unfolding serde_json_on_literals is_utf8 chars digits
returns-clause-absent c = refl

pub returns-clause-next : goal.returns-clause-next
unfolding serde_json_on_literals is_utf8 chars digits
returns-clause-next c = refl

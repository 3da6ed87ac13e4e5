use Rattle.std.proofs.Common.{refl}
use Rattle.std.specs.Fmt.{digits}
use Rattle.std.specs.Str.{is_utf8, chars}
use Rattle.serde_json.proofs.OnLiterals.{serde_json_on_literals}
use Rattle.run_examples.proofs.worked.worked_answers.Goals as goal

pub returns-clause-hello : goal.returns-clause-hello
unfolding serde_json_on_literals is_utf8 chars digits
returns-clause-hello c = refl

pub returns-clause-identity : goal.returns-clause-identity
unfolding serde_json_on_literals is_utf8 chars digits
returns-clause-identity c = refl

pub returns-clause-router : goal.returns-clause-router
unfolding serde_json_on_literals is_utf8 chars digits
returns-clause-router c = refl

pub returns-clause-absent : goal.returns-clause-absent
unfolding serde_json_on_literals is_utf8 chars digits
returns-clause-absent c = refl

pub returns-clause-missing : goal.returns-clause-missing
unfolding serde_json_on_literals is_utf8 chars digits
returns-clause-missing c = refl

pub returns-clause-no_name : goal.returns-clause-no_name
unfolding serde_json_on_literals is_utf8 chars digits
returns-clause-no_name c = refl

pub returns-clause-two_keys : goal.returns-clause-two_keys
unfolding serde_json_on_literals is_utf8 chars digits
returns-clause-two_keys c = refl

pub returns-clause-list : goal.returns-clause-list
unfolding serde_json_on_literals is_utf8 chars digits
returns-clause-list c = refl

pub returns-clause-unsupported : goal.returns-clause-unsupported
unfolding serde_json_on_literals is_utf8 chars digits
returns-clause-unsupported c = refl

pub returns-clause-compact : goal.returns-clause-compact
unfolding serde_json_on_literals is_utf8 chars digits
returns-clause-compact c = refl

pub returns-clause-compact_key : goal.returns-clause-compact_key
unfolding serde_json_on_literals is_utf8 chars digits
returns-clause-compact_key c = refl

use Rattle.std.proofs.Common.{refl}
use Rattle.std.specs.Str.{is_utf8, chars}
use Rattle.serde_json.proofs.OnLiterals.{serde_json_on_literals}
use Rattle.json_body.proofs.worked.worked_kinds.Goals as goal

pub returns-clause-name : goal.returns-clause-name
unfolding serde_json_on_literals is_utf8 chars
returns-clause-name c = refl

pub returns-clause-text : goal.returns-clause-text
unfolding serde_json_on_literals is_utf8 chars
returns-clause-text c = refl

pub returns-clause-high : goal.returns-clause-high
unfolding serde_json_on_literals is_utf8 chars
returns-clause-high c = refl

pub returns-clause-low : goal.returns-clause-low
unfolding serde_json_on_literals is_utf8 chars
returns-clause-low c = refl

pub returns-clause-flag : goal.returns-clause-flag
unfolding serde_json_on_literals is_utf8 chars
returns-clause-flag c = refl

pub returns-clause-list : goal.returns-clause-list
unfolding serde_json_on_literals is_utf8 chars
returns-clause-list c = refl

pub returns-clause-left_out : goal.returns-clause-left_out
unfolding serde_json_on_literals is_utf8 chars
returns-clause-left_out c = refl

pub returns-clause-given : goal.returns-clause-given
unfolding serde_json_on_literals is_utf8 chars
returns-clause-given c = refl

pub returns-clause-there : goal.returns-clause-there
unfolding serde_json_on_literals is_utf8 chars
returns-clause-there c = refl

pub returns-clause-only : goal.returns-clause-only
unfolding serde_json_on_literals is_utf8 chars
returns-clause-only c = refl

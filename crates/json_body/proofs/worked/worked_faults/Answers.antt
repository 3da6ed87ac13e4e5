use Rattle.std.proofs.Common.{refl}
use Rattle.std.specs.Str.{is_utf8, chars}
use Rattle.serde_json.proofs.OnLiterals.{serde_json_on_literals}
use Rattle.json_body.proofs.worked.worked_faults.Goals as goal

pub returns-clause-no_object : goal.returns-clause-no_object
unfolding serde_json_on_literals is_utf8 chars
returns-clause-no_object c = refl

pub returns-clause-missing : goal.returns-clause-missing
unfolding serde_json_on_literals is_utf8 chars
returns-clause-missing c = refl

pub returns-clause-nothing : goal.returns-clause-nothing
unfolding serde_json_on_literals is_utf8 chars
returns-clause-nothing c = refl

pub returns-clause-nothing_given : goal.returns-clause-nothing_given
unfolding serde_json_on_literals is_utf8 chars
returns-clause-nothing_given c = refl

pub returns-clause-no_name : goal.returns-clause-no_name
unfolding serde_json_on_literals is_utf8 chars
returns-clause-no_name c = refl

pub returns-clause-empty : goal.returns-clause-empty
unfolding serde_json_on_literals is_utf8 chars
returns-clause-empty c = refl

pub returns-clause-above : goal.returns-clause-above
unfolding serde_json_on_literals is_utf8 chars
returns-clause-above c = refl

pub returns-clause-below : goal.returns-clause-below
unfolding serde_json_on_literals is_utf8 chars
returns-clause-below c = refl

pub returns-clause-point : goal.returns-clause-point
unfolding serde_json_on_literals is_utf8 chars
returns-clause-point c = refl

pub returns-clause-exponent : goal.returns-clause-exponent
unfolding serde_json_on_literals is_utf8 chars
returns-clause-exponent c = refl

pub returns-clause-sign : goal.returns-clause-sign
unfolding serde_json_on_literals is_utf8 chars
returns-clause-sign c = refl

pub returns-clause-no_flag : goal.returns-clause-no_flag
unfolding serde_json_on_literals is_utf8 chars
returns-clause-no_flag c = refl

pub returns-clause-longer : goal.returns-clause-longer
unfolding serde_json_on_literals is_utf8 chars
returns-clause-longer c = refl

pub returns-clause-other : goal.returns-clause-other
unfolding serde_json_on_literals is_utf8 chars
returns-clause-other c = refl

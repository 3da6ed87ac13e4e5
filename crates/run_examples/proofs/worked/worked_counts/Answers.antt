use Rattle.std.proofs.Common.{refl}
use Rattle.std.specs.Fmt.{digits}
use Rattle.std.specs.Str.{is_utf8, chars}
use Rattle.serde_json.proofs.OnLiterals.{serde_json_on_literals}
use Rattle.run_examples.proofs.worked.worked_counts.Goals as goal

pub returns-clause-start : goal.returns-clause-start
unfolding serde_json_on_literals is_utf8 chars digits
returns-clause-start c = refl

pub returns-clause-dial : goal.returns-clause-dial
unfolding serde_json_on_literals is_utf8 chars digits
returns-clause-dial c = refl

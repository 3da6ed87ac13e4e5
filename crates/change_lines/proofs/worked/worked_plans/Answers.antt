use Rattle.std.proofs.Common.{refl}
use Rattle.std.specs.Fmt.{digits}
use Rattle.std.specs.Str.{is_utf8, chars}
use Rattle.serde_json.proofs.OnLiterals.{serde_json_on_literals}
use Rattle.change_lines.proofs.worked.worked_plans.Goals as goal

pub returns-clause-unstaffed : goal.returns-clause-unstaffed
unfolding serde_json_on_literals is_utf8 chars digits
returns-clause-unstaffed c = refl

pub returns-clause-asked : goal.returns-clause-asked
unfolding serde_json_on_literals is_utf8 chars digits
returns-clause-asked c = refl

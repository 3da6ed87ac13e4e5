use Rattle.std.proofs.Common.{refl}
use Rattle.std.specs.Fmt.{digits}
use Rattle.serde_json.proofs.OnLiterals.{serde_json_on_literals}
use Rattle.dump_laws.proofs.worked.worked_said_dumps.Goals as goal

pub returns : goal.returns
unfolding serde_json_on_literals digits
returns c = record { entry = refl; links = refl; circuits = refl; unsaid = refl; frame = refl; numbered = refl }

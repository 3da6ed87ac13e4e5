use Rattle.std.proofs.Common.{refl}
use Rattle.std.specs.Fmt.{digits}
use Rattle.serde_json.proofs.OnLiterals.{serde_json_on_literals}
use Rattle.command_bodies.proofs.worked.worked_entities.Goals as goal

pub returns : goal.returns
unfolding serde_json_on_literals digits
returns c = record { hello = refl; made = refl; attributes = refl; router = refl; deleted = refl; shown = refl; counts = refl; compacted = refl }

use Rattle.std.proofs.Common.{refl}
use Rattle.std.specs.Fmt.{digits}
use Rattle.serde_json.proofs.OnLiterals.{serde_json_on_literals}
use Rattle.command_bodies.proofs.worked.worked_intercepts.Goals as goal

pub returns : goal.returns
unfolding serde_json_on_literals digits
returns c = record { set = refl; over_udp = refl; cleared = refl; picked = refl; picked_over_udp = refl; listed = refl }

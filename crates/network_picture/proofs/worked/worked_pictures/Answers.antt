use Rattle.std.proofs.Common.{refl}
use Rattle.std.specs.Fmt.{digits}
use Rattle.network_picture.proofs.worked.worked_pictures.Goals as goal

pub returns : goal.returns
unfolding digits
returns c = record { start = refl; small = refl; torn = refl }

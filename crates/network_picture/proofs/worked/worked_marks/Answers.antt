use Rattle.std.proofs.Common.{refl}
use Rattle.std.specs.Fmt.{digits}
use Rattle.network_picture.proofs.worked.worked_marks.Goals as goal

pub returns : goal.returns
unfolding digits
returns c = record { small = refl; torn = refl; absent = refl; padded = refl; no_number = refl }

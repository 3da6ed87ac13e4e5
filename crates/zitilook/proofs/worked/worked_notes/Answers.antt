use Rattle.std.proofs.Common.{refl}
use Rattle.std.specs.Fmt.{digits}
use Rattle.zitilook.proofs.worked.worked_notes.Goals as goal

pub returns : goal.returns
unfolding digits
returns c = record { unknown = refl; second = refl; third = refl; absent = refl; none_found = refl; found = refl; no_word = refl; damaged = refl }

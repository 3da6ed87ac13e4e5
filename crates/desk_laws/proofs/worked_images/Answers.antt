use Rattle.std.proofs.Common.{◌≡◌, [], ◌∷◌, refl}
use Rattle.ziti_outside.specs.declared.desk.Part.TheVariants.{Zero}
use Rattle.ziti_outside.specs.Images.{Image, Torn, CutShort, OnPart, After}
use Rattle.ziti_outside.proofs.ImageLaws.{Torn-none, CutShort-none}
use Rattle.desk_base.specs.MemEvents.{at_parts}
use Rattle.desk_base.specs.MemStops.{unwritten, uncut}
use Rattle.desk_laws.proofs.worked_images.Goals as goal

pub returns-clause-cut_before_the_write : goal.returns-clause-cut_before_the_write
returns-clause-cut_before_the_write c =
    let first : Image = at_parts (1 ∷ 2 ∷ 3 ∷ []) [] [] in
    uncut Zero 4 first (unwritten Zero 3 1 first refl)

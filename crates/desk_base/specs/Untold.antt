-- What a desk says of parts that it does not tell.
use Rattle.std.specs.Prelude.{Bool, true, false, ⊤, IsTrue}
use Rattle.std.proofs.Common.{subst}

-- It does not tell them, so that nothing rests on them.
abbrev told : Bool → Type 0
told true = ⊥
told false = ⊤

pub untold : IsTrue false → ⊥
untold tells = subst told tells tt

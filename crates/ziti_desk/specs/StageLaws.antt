-- The pairs of a desk over a drive keep the laws of every desk (docs/PROMISES.md, "The desks").
use Rattle.std.specs.Prelude.{ℕ, zero, suc, List, [], ◌∷◌, length}
use Rattle.std.proofs.Common.{inr}
use Rattle.ziti_outside.specs.Images.{Image}
use Rattle.ziti_desk.specs.Stages.{PairsFrom}

-- This moment is one of those since an earlier one.
pub counts_last : {S : Type 0} (within : S → S → Image → List ℕ → Type 0) (last : S → Image → List ℕ → Type 0) (stages : List S) (now : S) (t : ℕ) (i : Image) (w : List ℕ)
    → last now i w → PairsFrom within last stages now t i w
counts_last within last [] now t i w p = p
counts_last within last (x ∷ xs) now zero i w p = inr (counts_last within last xs now zero i w p)
counts_last within last (x ∷ xs) now (suc t) i w p = counts_last within last xs now t i w p

-- Since this moment there is no other.
pub only_last : {S : Type 0} (within : S → S → Image → List ℕ → Type 0) (last : S → Image → List ℕ → Type 0) (stages : List S) (now : S) (i : Image) (w : List ℕ)
    → PairsFrom within last stages now (length stages) i w → last now i w
only_last within last [] now i w p = p
only_last within last (x ∷ xs) now i w p = only_last within last xs now i w p

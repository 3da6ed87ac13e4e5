-- Input that a source over memory gives in pieces, and the calls that are to fail (docs/PROMISES.md, "The desks").
use Rattle.std.specs.Prelude.{◌≡◌, ℕ, ◌+◌, ◌-◌, ◌^◌, ◌==◌, min, Bool, true, false, List, [], ◌∷◌, ◌++◌, length, take, drop, IsErr, Ok}
use Rattle.std.specs.declared.result.Result.{Result}
use Rattle.std.specs.List.{list_any}

-- A source over memory as contracts see it: the pieces that it has still to give, the places of the calls that fail, how many calls
-- were made, and how many faults were counted.
pub record SourceView : Type 0 where
  pub pieces : List (List ℕ)
  pub failing : List ℕ
  pub calls : ℕ
  pub faults : ℕ

-- Whether the call at this place, counted from 0, is to fail.
abbrev pub is_listed : List ℕ → ℕ → Bool
is_listed places call = list_any (λ (place : ℕ). place == call) places

-- The number of calls behind one more. It stands still at the end of its type.
abbrev pub next_call : ℕ → ℕ
next_call calls = min (calls + 1) (2 ^ 64 - 1)

-- The bytes of some pieces, one after the other.
abbrev pub joined : List (List ℕ) → List ℕ
joined [] = []
joined (piece ∷ pieces) = piece ++ joined pieces

-- The pieces from the first one on that has a byte.
abbrev pub from_first : List (List ℕ) → List (List ℕ)
from_first [] = []
from_first ([] ∷ pieces) = from_first pieces
from_first ((byte ∷ piece) ∷ pieces) = (byte ∷ piece) ∷ pieces

-- The first piece, or no bytes where there is none.
abbrev pub first : List (List ℕ) → List ℕ
first [] = []
first (piece ∷ pieces) = piece

-- The pieces without the first bytes of the first one.
abbrev pub without : ℕ → List (List ℕ) → List (List ℕ)
without count [] = []
without count (piece ∷ pieces) = drop count piece ∷ pieces

-- What one take did to the pieces that are left. It failed where it was to fail, and gave nothing; else it gave of the first piece
-- that has a byte as much as the buffer holds, and the rest of that piece comes next.
pub record GivesPiece {E : Type 0} (fails : Bool) (before now : List (List ℕ)) (result : Result ℕ E) (buf : List ℕ) : Type 0 where
  pub failed : fails ≡ true → IsErr result × (now ≡ before)
  pub count : fails ≡ false → result ≡ Ok (length (take (length buf) (first (from_first before))))
  pub bytes : fails ≡ false → take (length (take (length buf) (first (from_first before)))) buf ≡ take (length buf) (first (from_first before))
  pub rest : fails ≡ false → now ≡ without (length buf) (from_first before)

-- What one take did to a source over memory: it failed where its place is listed, and was counted.
pub record TakesPiece {E : Type 0} (old new : SourceView) (result : Result ℕ E) (buf : List ℕ) : Type 0 where
  pub piece : GivesPiece (is_listed old.failing old.calls) old.pieces new.pieces result buf
  pub next : new.calls ≡ next_call old.calls
  pub listed : new.failing ≡ old.failing

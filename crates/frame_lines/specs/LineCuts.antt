-- Cuts of a text and of a line. Only private contracts cite these (docs/FORMATS.md, "Lines for people").
use Rattle.std.specs.Prelude.{◌≡◌, ℕ, false, ◌==◌, if◌then◌else◌, List, [], ◌∷◌, ◌++◌}
use Rattle.std.specs.List.{AllByRecursion}

-- The bytes do not have this one among them.
abbrev pub Lacks : ℕ → List ℕ → Type 0
Lacks b bytes = AllByRecursion (λ x. (x == b) ≡ false) bytes

-- The bytes are cut at the first place of a byte: these stand before it, and those behind it.
pub record CutsAt (b : ℕ) (bytes before behind : List ℕ) : Type 0 where
  pub first : Lacks b before
  pub text : bytes ≡ before ++ b ∷ behind

-- The bytes without a carriage return at their end.
abbrev pub without_return : List ℕ → List ℕ
without_return [] = []
without_return (b ∷ []) = if b == 13 then [] else b ∷ []
without_return (b ∷ c ∷ line) = b ∷ without_return (c ∷ line)

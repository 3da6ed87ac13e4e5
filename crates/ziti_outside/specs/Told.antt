-- What a call did to contents that may be told or untold. Each speaks where they are told: told contents stay told, and of
-- untold ones nothing is said (docs/PROMISES.md, "The outside").
use Rattle.std.specs.Prelude.{ℕ, ◌≡◌, ◌≤◌, List, ◌++◌, length, take, ⊤, Some, MatchResult}
use Rattle.std.specs.declared.option.Option.{Option}
use Rattle.std.specs.declared.result.Result.{Result}
use Rattle.std.specs.Io.KnownBytes.{Consumes, Appends, Keeps, IsAtEnd}

-- A source that had these bytes left gave some of them, and has the others left.
abbrev pub Gave : Option (List ℕ) → Option (List ℕ) → List ℕ → Type 0
Gave before now bytes = Consumes before now bytes

-- A desk that had taken these bytes took some more.
abbrev pub Took : Option (List ℕ) → Option (List ℕ) → List ℕ → Type 0
Took before now bytes = Appends before now bytes

-- These are the bytes that were taken.
abbrev pub AreTaken : Option (List ℕ) → List ℕ → Type 0
AreTaken known bytes = Keeps known (Some bytes)

-- The part is a front of the whole: some bytes more make it the whole.
abbrev pub IsFront : List ℕ → List ℕ → Type 0
IsFront part whole = (more : List ℕ) × (part ++ more ≡ whole)

-- A desk took some front of the bytes.
abbrev pub TookFront : Option (List ℕ) → Option (List ℕ) → List ℕ → Type 0
TookFront before now bytes = (part : List ℕ) × IsFront part bytes × Took before now part

-- What one take from a source did: the bytes that were given stand at the front of the buffer, no bytes come only at the
-- end of the input, and a failed take gives nothing.
pub record Takes {E : Type 0} (before now : Option (List ℕ)) (result : Result ℕ E) (buf : List ℕ) : Type 0 where
  pub within : MatchResult result (λ n. n ≤ length buf) (λ _. ⊤)
  pub bytes : MatchResult result (λ n. Gave before now (take n buf)) (λ _. Keeps before now)
  pub end : MatchResult result (λ n. n ≡ 0 → IsAtEnd now) (λ _. ⊤)

-- What one say or note did: all the bytes were taken, or the call failed and some front of them was.
abbrev pub Hands : {T E : Type 0} → Option (List ℕ) → Option (List ℕ) → Result T E → List ℕ → Type 0
Hands before now result bytes = MatchResult result (λ _. Took before now bytes) (λ _. TookFront before now bytes)

-- What the answer of a writer is to a desk (docs/PROMISES.md, "The desks").
use Rattle.std.specs.Prelude.{◌≡◌, ℕ, ◌<◌, IsErr, Ok}
use Rattle.std.specs.declared.result.Result.{Result}

-- A writer that took so many bytes of a piece of this length wrote them, unless it took none of a piece that has some.
pub record IsTaken {E : Type 0} (count len : ℕ) (answer : Result ℕ E) : Type 0 where
  pub none : count ≡ 0 → 0 < len → IsErr answer
  pub some : 0 < count → answer ≡ Ok count
  pub empty : len ≡ 0 → answer ≡ Ok count

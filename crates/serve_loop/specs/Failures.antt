-- What failed takes are to a run (docs/PROMISES.md, "The headline").
use Rattle.std.specs.Prelude.{◌≡◌, ℕ, List}
use Rattle.std.specs.declared.option.Option.{Option}
use Rattle.std.specs.Io.KnownBytes.{Keeps}
use Rattle.ziti_outside.specs.Told.{Gave}

-- A failed take is the last: all that the source gave it had given when no take had failed.
pub record TakesUntilFailure {S : Type 0} (left : S → Option (List ℕ)) (faults : S → ℕ) (old new : S) : Type 0 where
  pub until : S
  pub taken : List ℕ
  pub gave : Gave (left old) (left until) taken
  pub calm : faults until ≡ faults old
  pub nothing_more : Keeps (left until) (left new)

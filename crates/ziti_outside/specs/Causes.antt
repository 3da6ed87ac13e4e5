-- When a call on the outside may fail (docs/PROMISES.md, "The outside").
use Rattle.std.specs.Prelude.{◌≡◌, ℕ, ◌+◌, ◌-◌, ◌^◌, ◌≤◌, min, OnOk, OnErr}
use Rattle.std.specs.declared.result.Result.{Result}

-- The count of faults rose: it is greater now, or it stands at the last value of a counter of 64 bits.
abbrev pub Rose : ℕ → ℕ → Type 0
Rose before now = min (before + 1) (2 ^ 64 - 1) ≤ now

-- The count of faults did not fall in a call, and rose by one at most; it stayed where the call succeeded, and the call failed
-- only where it rose.
pub record HasCause {T E : Type 0} (before now : ℕ) (result : Result T E) : Type 0 where
  pub later : before ≤ now
  pub once : now ≤ before + 1
  pub calm : OnOk result (now ≡ before)
  pub failed : OnErr result (Rose before now)

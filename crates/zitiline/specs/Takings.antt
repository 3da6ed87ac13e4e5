-- What the taking of the input did. Only private contracts cite these.
use Rattle.std.specs.Prelude.{◌≡◌, ℕ, ◌+◌, ◌≤◌, List}
use Rattle.std.specs.declared.option.Option.{Option}
use Rattle.std.specs.declared.result.Result.{Result}
use Rattle.std.specs.Prelude.{Ok, Err}
use Rattle.std.specs.Io.KnownBytes.{IsAtEnd}
use Rattle.ziti_outside.specs.Told.{Gave}
use Rattle.ziti_outside.specs.Causes.{Rose}
use Rattle.zitiline.specs.declared.intake.Cut.{Cut}
use Rattle.zitiline.specs.declared.intake.Cut.TheVariants.{NoMemory, Fault}

-- The bytes are all that the source had left, and nothing is left now.
pub record TookAll (before now : Option (List ℕ)) (bytes : List ℕ) : Type 0 where
  pub gave : Gave before now bytes
  pub end : IsAtEnd now

-- The source gave some bytes.
pub record GaveSome (before now : Option (List ℕ)) : Type 0 where
  pub bytes : List ℕ
  pub gave : Gave before now bytes

-- A count of faults did not fall, and rose by one at most.
pub record RisesOnce (before now : ℕ) : Type 0 where
  pub later : before ≤ now
  pub once : now ≤ before + 1

-- The count of faults rose where the source failed, and stayed where it did not.
abbrev pub FaultOf : {T : Type 0} → ℕ → ℕ → Result T Cut → Type 0
FaultOf before now (Ok _) = now ≡ before
FaultOf before now (Err NoMemory) = now ≡ before
FaultOf before now (Err Fault) = Rose before now

-- The same, and it rose by one at most.
pub record HasFault {T : Type 0} (before now : ℕ) (result : Result T Cut) : Type 0 where
  pub counted : RisesOnce before now
  pub fault : FaultOf before now result

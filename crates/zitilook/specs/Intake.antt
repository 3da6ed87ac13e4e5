-- What the taking of the input did. Only private contracts cite these.
use Rattle.std.specs.Prelude.{◌≡◌, ℕ, List, Ok, Err}
use Rattle.std.specs.declared.option.Option.{Option}
use Rattle.std.specs.declared.result.Result.{Result}
use Rattle.std.specs.Io.KnownBytes.{IsAtEnd}
use Rattle.ziti_outside.specs.Causes.{Rose}
use Rattle.ziti_outside.specs.Told.{Gave}
use Rattle.zitilook.specs.declared.intake.Cut.{Cut}
use Rattle.zitilook.specs.declared.intake.Cut.TheVariants.{NoMemory, Fault}
use Rattle.zitilook.specs.declared.status.Status.{Status}
use Rattle.zitilook.specs.declared.status.Status.TheVariants as status

-- The bytes are all that the source had left, and nothing is left now.
pub record TookAll (before now : Option (List ℕ)) (bytes : List ℕ) : Type 0 where
  pub gave : Gave before now bytes
  pub end : IsAtEnd now

-- The source gave some bytes.
pub record GaveSome (before now : Option (List ℕ)) : Type 0 where
  pub bytes : List ℕ
  pub gave : Gave before now bytes

-- The count of faults of a taking that was cut short: it stayed where memory was wanting, and rose where the source failed.
abbrev pub FaultAt : Cut → ℕ → ℕ → Type 0
FaultAt NoMemory before now = now ≡ before
FaultAt Fault before now = Rose before now

-- The count of faults of a taking: it stayed where that came to the end.
abbrev pub FaultOf : {T : Type 0} → ℕ → ℕ → Result T Cut → Type 0
FaultOf before now (Ok _) = now ≡ before
FaultOf before now (Err cut) = FaultAt cut before now

-- The status of a taking that was cut short.
abbrev pub cut_status : Cut → Status
cut_status NoMemory = status.NoMemory
cut_status Fault = status.ReadFault

-- What the planning of an input came to. Only private contracts cite it.
use Rattle.std.specs.Prelude.{◌≡◌, ⊤, ℕ, List, None, Some, Ok, Err}
use Rattle.std.specs.declared.alloc.AllocError.{AllocError}
use Rattle.std.specs.declared.result.Result.{Result}
use Rattle.ctrl_model.specs.State.{State}
use Rattle.frame_lines.specs.declared.lines.LineFault.{LineFault}
use Rattle.frame_lines.specs.TextReading.{fault_said}
use Rattle.change_lines.specs.declared.planning.Plan.{Plan}
use Rattle.change_lines.specs.PlanTexts.{IsPlan}
use Rattle.zitilook.specs.declared.status.Status.{Status}
use Rattle.zitilook.specs.declared.status.Status.TheVariants.{ReadFault, WriteFault, DiskFault}

-- An input was planned in a state, or has a line at fault, or memory was wanting.
abbrev pub IsPlanned : Result (Result Plan LineFault) AllocError → State → List ℕ → Type 0
IsPlanned (Ok (Ok p)) s input = (fault_said input ≡ None) × IsPlan s input p
IsPlanned (Ok (Err fault)) s input = fault_said input ≡ Some fault
IsPlanned (Err e) s input = ⊤

-- A status that no fault of the outside brings.
pub record IsFaultless (status : Status) : Type 0 where
  pub written : status ≡ WriteFault → ⊥
  pub undisked : status ≡ DiskFault → ⊥
  pub read : status ≡ ReadFault → ⊥

-- What a run said of a plan: what the commands of its input would change, and which of them are refused (docs/FORMATS.md, "Plans").
use Rattle.std.specs.Prelude.{◌≡◌, ◌⊎◌, ℕ, Bool, IsTrue, List, [], None, Some}
use Rattle.std.specs.declared.option.Option.{Option}
use Rattle.std.specs.Io.KnownBytes.{IsAtEnd}
use Rattle.ziti_outside.specs.Causes.{Rose}
use Rattle.ziti_outside.specs.Told.{Gave, Took, TookFront}
use Rattle.ziti_outside.specs.Views.{Outside, Seen}
use Rattle.ctrl_model.specs.State.{State}
use Rattle.ctrl_model.specs.ValidState.{ValidState}
use Rattle.row_store.specs.OpenedStates.{OpensToState}
use Rattle.frame_lines.specs.declared.lines.LineFault.{LineFault}
use Rattle.frame_lines.specs.TextLines.{lines_of}
use Rattle.frame_lines.specs.TextReading.{fault_said}
use Rattle.change_plans.specs.PlannedLines.{planned}
use Rattle.change_lines.specs.PlanTexts.{plan_text}
use Rattle.run_notes.specs.NotedLines.{NotesLines}
use Rattle.zitilook.specs.declared.status.Status.{Status}
use Rattle.zitilook.specs.declared.status.Status.TheVariants.{Done, Differs, Refused, ReadFault, WriteFault, NoMemory}
use Rattle.zitilook.specs.Looks.{FindsNone, HasCauses, IsLeftAlone, Refuses}
use Rattle.zitilook.specs.Notes.{line_note, notes_of}

-- What a status says of a plan: nothing is told of it; something changes, and no command is refused; or a command is refused. The other
-- statuses say nothing of it.
abbrev pub Decides : Status → State → List ℕ → Type 0
Decides Done s input = plan_text s input ≡ []
Decides Differs s input = (plan_text s input ≡ [] → ⊥) × ((planned (lines_of input) s).1 ≡ [])
Decides Refused s input = (planned (lines_of input) s).1 ≡ [] → ⊥
Decides _ s input = ⊥

-- What a run that ended so has said of a plan: nothing where there is nothing to tell; all its lines where there are some, and these decide
-- the status, or a front of them where the say failed; and nothing where memory was wanting.
abbrev pub SaysPlan : Status → State → List ℕ → (before now : Option (List ℕ)) → Type 0
SaysPlan Done s input before now = Decides Done s input × (now ≡ before)
SaysPlan WriteFault s input before now = (plan_text s input ≡ [] → ⊥) × TookFront before now (plan_text s input)
SaysPlan NoMemory s input before now = now ≡ before
SaysPlan status s input before now = Decides status s input × Took before now (plan_text s input)

-- A run that says a plan.
pub record TellsPlan (s : State) (input : List ℕ) (before now : Seen) (status : Status) : Type 0 where
  pub says : SaysPlan status s input before.said now.said
  pub notes : NotesLines (notes_of status) before now

-- What is told of an input by its fault, if it has one: its plan, or the note of the line at fault.
abbrev pub TellsInput : Option LineFault → State → List ℕ → (before now : Seen) → Status → Type 0
TellsInput None s input before now status = TellsPlan s input before now status
TellsInput (Some fault) s input before now status = Refuses (line_note fault) before now status

-- A run whose folder was opened.
pub record PlansOpened (tells : Bool) (input : List ℕ) (before now : Seen) (status : Status) : Type 0 where
  pub state : State
  pub valid : ValidState state
  pub opens : IsTrue tells → OpensToState before.reads state
  pub tells_input : TellsInput (fault_said input) state input before now status

-- A run whose input was not read to its end: the source failed, or memory was wanting.
pub record IsCutShort (before now : Seen) (status : Status) : Type 0 where
  pub says_nothing : now.said ≡ before.said
  pub why : (status ≡ ReadFault) ⊎ (status ≡ NoMemory)
  pub notes : NotesLines (notes_of status) before now

-- A run that plans the commands of its input, which it reads to its end before it opens the folder. A fault comes exactly where its count
-- rose in this run, and the folder is left alone.
pub record Plans {S D : Type 0} (outside : Outside S D) (source source_now : S) (desk desk_now : D) (status : Status) : Type 0 where
  pub input : List ℕ
  pub gave : Gave (outside.left source) (outside.left source_now) input
  pub finds : IsCutShort (outside.seen desk) (outside.seen desk_now) status
      ⊎ (IsAtEnd (outside.left source_now)
      × (FindsNone outside.tells (outside.seen desk) (outside.seen desk_now) status ⊎ PlansOpened outside.tells input (outside.seen desk) (outside.seen desk_now) status))
  pub read_fault : status ≡ ReadFault → Rose (outside.faults source) (outside.faults source_now)
  pub no_read_fault : (status ≡ ReadFault → ⊥) → outside.faults source_now ≡ outside.faults source
  pub causes : HasCauses (outside.seen desk) (outside.seen desk_now) status
  pub folder : IsLeftAlone outside.seen outside.stopped desk desk_now

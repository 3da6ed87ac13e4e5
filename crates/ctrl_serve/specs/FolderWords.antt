-- What the words `audit`, `advise` and `compact` do with a folder (docs/PROMISES.md, "The headline").
use Rattle.std.specs.Prelude.{◌≡◌, ℕ, Bool, true, IsTrue, List, [], Some, is_some}
use Rattle.ziti_outside.specs.Images.{Image}
use Rattle.ziti_outside.specs.Moments.{Elapses}
use Rattle.ziti_outside.specs.Told.{AreTaken}
use Rattle.ziti_outside.specs.Views.{Seen, Stopped}
use Rattle.ctrl_model.specs.declared.commands.Command.TheVariants.{Compact}
use Rattle.ctrl_model.specs.declared.kinds.Who.TheVariants.{Admin}
use Rattle.ctrl_model.specs.declared.refusals.Refusal.{Refusal}
use Rattle.ctrl_model.specs.declared.refusals.Refusal.TheVariants.{JournalFull, MarkFull}
use Rattle.ctrl_model.specs.declared.replies.Reply.{Reply}
use Rattle.ctrl_model.specs.declared.replies.Reply.TheVariants.{Done, Refused}
use Rattle.ctrl_model.specs.State.{State}
use Rattle.ctrl_model.specs.ValidState.{ValidState}
use Rattle.slot_files.specs.FolderImage.{slot_of, Stands}
use Rattle.policy_advisor.specs.Reports.{report_of}
use Rattle.row_store.specs.declared.bounds.StoreBounds.{StoreBounds}
use Rattle.row_store.specs.RewrittenStores.{compacted}
use Rattle.row_store.specs.OpenedStates.{byte_rows_of, OpensToState}
use Rattle.ctrl_keep.specs.KeptMachine.{Machine, Place, step}
use Rattle.run_notes.specs.declared.ends.Full.{Full}
use Rattle.run_notes.specs.declared.ends.Full.TheVariants as full
use Rattle.run_notes.specs.declared.status.Status.{Status}
use Rattle.run_notes.specs.declared.status.Status.TheVariants as ending
use Rattle.run_notes.specs.Notes.{full_note, status_lines}
use Rattle.run_notes.specs.NotedLines.{NotesLines}
use Rattle.ctrl_serve.specs.Loads.{counts_line, SaysOneLine}
use Rattle.ctrl_serve.specs.OpenedFolders.{Keeps, OpensTo, StandsOpened}
use Rattle.ctrl_serve.specs.MigratedRuns.{HasRoomToOpen}
use Rattle.ctrl_serve.specs.RunStops.{AllOpenTo}
use Rattle.ctrl_core.specs.KeptFormat.{kept_format}

-- ---- audit and advise

-- A run that looks at a folder, on one that opens to a state, which is valid: it says a line of that state.
pub record Looks (line : State → List ℕ) (tells : Bool) (before now : Seen) (status : Status) : Type 0 where
  pub state : State
  pub valid : ValidState state
  pub opens : IsTrue tells → OpensToState before.reads state
  pub says : SaysOneLine (line state) before now status

-- Under `audit` the line is the counts line.
abbrev pub Audits : (tells : Bool) (before now : Seen) (status : Status) → Type 0
Audits tells before now status = Looks counts_line tells before now status

-- Under `advise I S` it is the report on the names of an identity and of a service.
abbrev pub Advises : (identity service : List ℕ) (tells : Bool) (before now : Seen) (status : Status) → Type 0
Advises identity service tells before now status = Looks (λ s. report_of s identity service) tells before now status

-- ---- compact

-- The machine's step on Compact, which an administrator asks for.
abbrev pub compaction : StoreBounds → Machine → Reply × Machine
compaction bounds m = step bounds Admin Compact m

-- The refusal that tells which part has no room.
abbrev pub refusal_of : Full → Refusal
refusal_of full.Journal = JournalFull
refusal_of full.Mark = MarkFull

-- A folder was compacted: it keeps the machine behind the compaction, and so the same state, at its new place; it stands for the one
-- batch of all rows, or for none where there are no rows; and the slot that stood is empty.
pub record IsCompacted (bounds : StoreBounds) (m : Machine) (reads_now : Image) : Type 0 where
  pub keeps : Keeps reads_now (compaction bounds m).1
  pub stands : Stands kept_format reads_now (compacted (byte_rows_of kept_format m.state))
  pub cut : (place : Place) → m.place ≡ Some place → reads_now (slot_of place.mark) ≡ []

-- A compaction was refused for want of room: the machine's step says so, the note tells the part without room, and the folder keeps the
-- machine as it was.
pub record HasNoRoom (bounds : StoreBounds) (m : Machine) (tells : Bool) (before now : Seen) : Type 0 where
  pub full : Full
  pub refused : (compaction bounds m).0 ≡ Refused (refusal_of full)
  pub notes : NotesLines (full_note full) before now
  pub keeps : IsTrue tells → Keeps now.reads m

-- How a run of `compact` on a folder ended, at a status. A failed call on the disk and want of memory come only where the compaction is not
-- refused. The other statuses never come.
abbrev pub EndsCompaction : Status → (bounds : StoreBounds) (m : Machine) (tells : Bool) (before now : Seen) → Type 0
EndsCompaction ending.Done bounds m tells before now = ((compaction bounds m).0 ≡ Done) × NotesLines [] before now × (IsTrue tells → IsCompacted bounds m now.reads)
EndsCompaction ending.FolderFull bounds m tells before now = HasNoRoom bounds m tells before now
EndsCompaction ending.DiskFault bounds m tells before now = ((compaction bounds m).0 ≡ Done) × NotesLines (status_lines [] ending.DiskFault) before now
EndsCompaction ending.NoMemory bounds m tells before now = ((compaction bounds m).0 ≡ Done) × NotesLines (status_lines [] ending.NoMemory) before now
EndsCompaction _ bounds m tells before now = ⊥

-- A run of `compact` on a folder that opens to a machine, in a valid state and with a place. However it ends, each image that a stop may
-- leave, at any moment and at the end, opens to the state that stood, and no reply byte is taken. Where the compaction is refused for want of
-- room the folder stands for what it stood for once it was opened, and where it kept the machine every part reads as before. A folder of the
-- first format is opened only where there is room to migrate it.
pub record Compacts (bounds : StoreBounds) (tells : Bool) (before now : Seen) (stopped stopped_now : Stopped) (status : Status) : Type 0 where
  pub machine : Machine
  pub valid : ValidState machine.state
  pub placed : is_some machine.place ≡ true
  pub opens : IsTrue tells → OpensTo before.reads machine
  pub migrates : IsTrue tells → HasRoomToOpen bounds before.reads
  pub ends : EndsCompaction status bounds machine tells before now
  pub refused_stands : IsTrue tells → status ≡ ending.FolderFull → (batches : List (List ℕ)) → StandsOpened before.reads machine batches → Stands kept_format now.reads batches
  pub refused_still : IsTrue tells → status ≡ ending.FolderFull → Keeps before.reads machine → now.reads ≡ before.reads
  pub stops : IsTrue tells → AllOpenTo stopped.images machine.state → Elapses stopped stopped_now (λ image taken. OpensToState image machine.state)
  pub found : IsTrue tells → AllOpenTo stopped_now.images machine.state
  pub unsaid : Elapses stopped stopped_now (λ image taken. AreTaken before.said taken)

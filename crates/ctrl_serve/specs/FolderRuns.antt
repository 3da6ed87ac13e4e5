-- What is told of a folder that was not opened or not shipped to its end, and of a compaction. Only private contracts cite these.
use Rattle.std.specs.Prelude.{◌≡◌, ℕ, List, [], None, Some, Ok, Err}
use Rattle.std.specs.declared.option.Option.{Option}
use Rattle.std.specs.declared.result.Result.{Result}
use Rattle.ziti_outside.specs.Views.{Seen}
use Rattle.ctrl_model.specs.declared.refusals.Refusal.TheVariants.{JournalFull, MarkFull}
use Rattle.ctrl_model.specs.declared.replies.Reply.{Reply}
use Rattle.ctrl_model.specs.declared.replies.Reply.TheVariants.{Refused}
use Rattle.ctrl_keep.specs.declared.faults.KeepFault.{KeepFault}
use Rattle.ctrl_keep.specs.declared.faults.KeepFault.TheVariants as keep
use Rattle.ship_core.specs.declared.faults.ShipFault.{ShipFault}
use Rattle.ship_core.specs.declared.faults.ShipFault.TheVariants as ship
use Rattle.run_notes.specs.declared.ends.Full.{Full}
use Rattle.run_notes.specs.declared.ends.Full.TheVariants as full
use Rattle.run_notes.specs.declared.status.Status.{Status}
use Rattle.run_notes.specs.declared.status.Status.TheVariants as ending
use Rattle.run_notes.specs.NotedLines.{NotesLines}
use Rattle.run_notes.specs.Notes.{damaged_note, full_note, status_lines}

-- A run ended at one status, and these lines were noted.
abbrev pub TellsEnd : (is : Status) → (lines : List ℕ) → (status : Status) → (before now : Seen) → Type 0
TellsEnd is lines status before now = (status ≡ is) × NotesLines lines before now

-- What was told of a folder that was not opened, by the fault of its opening, which is never Spent.
abbrev pub TellsClosed : KeepFault → (status : Status) → (before now : Seen) → Type 0
TellsClosed keep.Disk status before now = TellsEnd ending.DiskFault (status_lines [] ending.DiskFault) status before now
TellsClosed keep.Full status before now = TellsEnd ending.FolderFull (full_note full.Journal) status before now
TellsClosed keep.MarkFull status before now = TellsEnd ending.FolderFull (full_note full.Mark) status before now
TellsClosed (keep.Damaged part at) status before now = TellsEnd ending.Damaged (damaged_note part at) status before now
TellsClosed keep.Spent status before now = ⊥
TellsClosed keep.NoMemory status before now = TellsEnd ending.NoMemory (status_lines [] ending.NoMemory) status before now

-- What was told of a folder that was not shipped to its end, by the fault of the shipping.
abbrev pub TellsUnshipped : ShipFault → (status : Status) → (before now : Seen) → Type 0
TellsUnshipped ship.Disk status before now = TellsEnd ending.DiskFault (status_lines [] ending.DiskFault) status before now
TellsUnshipped ship.Write status before now = TellsEnd ending.WriteFault (status_lines [] ending.WriteFault) status before now
TellsUnshipped (ship.Damaged part at) status before now = TellsEnd ending.Damaged (damaged_note part at) status before now
TellsUnshipped ship.NoMemory status before now = TellsEnd ending.NoMemory (status_lines [] ending.NoMemory) status before now

-- The part without room, if that is why a reply refuses.
abbrev pub full_in : Reply → Option Full
full_in (Refused JournalFull) = Some full.Journal
full_in (Refused MarkFull) = Some full.Mark
full_in _ = None

-- What was told of a part without room: nothing where there is none.
abbrev pub TellsRoom : Option Full → (status : Status) → (before now : Seen) → Type 0
TellsRoom None status before now = TellsEnd ending.Done [] status before now
TellsRoom (Some part) status before now = TellsEnd ending.FolderFull (full_note part) status before now

-- What was told of a compaction, by its reply or its fault, which is of the disk or want of memory.
abbrev pub TellsCompaction : Result Reply KeepFault → (status : Status) → (before now : Seen) → Type 0
TellsCompaction (Ok reply) status before now = TellsRoom (full_in reply) status before now
TellsCompaction (Err keep.Disk) status before now = TellsEnd ending.DiskFault (status_lines [] ending.DiskFault) status before now
TellsCompaction (Err fault) status before now = TellsEnd ending.NoMemory (status_lines [] ending.NoMemory) status before now

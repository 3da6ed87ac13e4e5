-- What a run promises, for every line of words (docs/PROMISES.md, "The headline").
use Rattle.std.specs.Prelude.{◌≡◌, ◌↔◌, ℕ, ◌<◌, ◌≤◌, ◌^◌, ◌⊎◌, Bool, true, IsTrue, None, Some, is_some, List, [], ◌∷◌, codes, length, take}
use Rattle.std.specs.declared.option.Option.{Option}
use Rattle.std.specs.Io.KnownBytes.{IsAtEnd}
use Rattle.ziti_outside.specs.Told.{AreTaken}
use Rattle.ziti_outside.specs.Causes.{Rose}
use Rattle.ziti_outside.specs.Images.{Image, After}
use Rattle.ziti_outside.specs.Moments.{Now, Elapses}
use Rattle.ziti_outside.specs.Untouched.{OnlyNotes}
use Rattle.ziti_outside.specs.declared.desk.Part.{Part}
use Rattle.ziti_outside.specs.declared.desk.Part.TheVariants.{Mark}
use Rattle.ziti_outside.specs.Views.{Outside, Seen, Stopped}
use Rattle.journal_core.specs.Room.{HoldsRoom}
use Rattle.ctrl_model.specs.State.{State, start}
use Rattle.ctrl_model.specs.ValidState.{ValidState}
use Rattle.model_laws.specs.JudgedCircuits.{AreGranted}
use Rattle.slot_files.specs.FolderImage.{Stands, StandsAsBefore}
use Rattle.row_store.specs.OpenedStates.{IsStateless}
use Rattle.row_store.specs.declared.bounds.StoreBounds.{StoreBounds}
use Rattle.ctrl_keep.specs.KeptMachine.{Machine}
use Rattle.ctrl_serve.specs.OpenedFolders.{Keeps, IsMigratedTo, OpensTo, StandsOpened}
use Rattle.ctrl_serve.specs.declared.bounds.Bounds.{Bounds}
use Rattle.session_mux.specs.declared.sessions.Form.{Form}
use Rattle.session_mux.specs.declared.sessions.Form.TheVariants.{Plain}
use Rattle.ctrl_serve.specs.declared.command_line.Form as command
use Rattle.ctrl_serve.specs.declared.command_line.Form.TheVariants.{Dry, Replay, Audit, Compact, Load, Advise, Ship, Follow}
use Rattle.run_notes.specs.declared.ends.Full.{Full}
use Rattle.run_notes.specs.declared.status.Status.{Status}
use Rattle.run_notes.specs.declared.status.Status.TheVariants.{Done, Usage, ReadFault, WriteFault, DiskFault, Damaged, NoMemory, FolderFull}
use Rattle.ctrl_serve.specs.CommandLine.{reads_input}
use Rattle.run_notes.specs.NotedLines.{RisesOnce, NotesLines}
use Rattle.serve_loop.specs.Failures.{TakesUntilFailure}
pub use Rattle.serve_loop.specs.LeftAlone.{IsLeftAlone, OnlySaysAndNotes}
pub use Rattle.serve_loop.specs.ServedInputs.{Taking, taking_of}
use Rattle.serve_loop.specs.ServedInputs as loop
use Rattle.ctrl_serve.specs.FrameAnswer.{controller, last_machine, last_batches, no_bounds, alone}
use Rattle.run_notes.specs.Inputs.{events_in}
use Rattle.run_notes.specs.Endings.{is_kept}
use Rattle.ctrl_serve.specs.Loads.{counts_line, state_of_load, SaysOneLine, IsSaid}
use Rattle.ctrl_serve.specs.FolderWords.{Advises, Audits, Compacts}
use Rattle.ctrl_serve.specs.ShipWords.{Ships}
use Rattle.ctrl_serve.specs.FollowWords.{Copies}
use Rattle.ctrl_serve.specs.RunStops.{AllOpenTo, StopFinds}
use Rattle.ctrl_serve.specs.MigratedRuns.{CutsMigration, HasRoomToOpen, IsToldFull, LeftByMigration}
use Rattle.ctrl_serve.specs.UnsaidReplies.{KeepsOneAhead}
use Rattle.ctrl_serve.specs.UncompactedFolders.{CompactsNothing, LeavesOtherSlot}
use Rattle.run_notes.specs.Notes.{usage_note, damaged_note, full_note, status_lines}
use Rattle.ctrl_core.specs.KeptFormat.{kept_format}

-- The bounds that a run takes.
pub record AreBounds (b : Bounds) : Type 0 where
  pub input : b.input ≤ 2 ^ 32
  pub slot_low : 64 ≤ b.slot
  pub slot_high : b.slot ≤ 2 ^ 30
  pub mark_low : 1 ≤ b.mark
  pub mark_high : b.mark ≤ 2 ^ 20

-- The bounds of the folder, of those of a run.
abbrev pub folder_bounds : Bounds → StoreBounds
folder_bounds b = record { slot = b.slot; mark = b.mark }

-- The bounds of the program: 2^32 bytes of input, 2^30 of a slot, and 2^20 of the mark.
abbrev pub program_bounds : Bounds
program_bounds = record { input = 2 ^ 32; slot = 2 ^ 30; mark = 2 ^ 20 }

-- A run over an input of a form from a machine on, within the bounds of its folder. Of what the source gave, the first `most` bytes
-- are used. Of their events the run answered the first ones, and all of them unless memory was wanting, the disk failed or a say. What was
-- said are the replies of the machine's run along the frames that arrived by the answered events, each whole, and where a say failed a front of
-- the next one beside them. A run that was not cut short ends as the bytes decide, and only once they decide the input, nothing is left or more
-- than `most` bytes were given. At most a piece was taken past the byte at which the run ended. What was noted are the faults among the answered
-- events, in the order in which the bytes decide them, and then how the run ended.
-- A call on the disk fails only while a frame is answered, and memory is not wanting once the fault of plain input was noted.
abbrev pub Serves : Taking → StoreBounds → Machine → (left_before left_now : Option (List ℕ)) (before now : Seen) → Status → Type 0
Serves taking bounds machine left_before left_now before now status = loop.Serves taking (controller bounds) machine left_before left_now before now status

-- A complete run: it ended as the used bytes decide, all replies to their whole frames were said, and they decide the input, nothing is left
-- or more than `most` bytes were given.
abbrev pub Completes : Taking → StoreBounds → Machine → (left_before left_now : Option (List ℕ)) (before now : Seen) → Status → Type 0
Completes taking bounds machine left_before left_now before now status = loop.Completes taking (controller bounds) machine left_before left_now before now status

-- A run without faults is complete, unless memory was wanting.
abbrev pub IsComplete : Taking → StoreBounds → Machine → (left_before left_now : Option (List ℕ)) (before now : Seen) → Status → Type 0
IsComplete taking bounds machine left_before left_now before now status = loop.IsComplete taking (controller bounds) machine left_before left_now before now status

-- Why the folder was not opened, at a status, and what was noted: a call on the disk failed; it opens to no state, and then it reads as
-- before and the place of the damage is told; it is one of the first format, which the run would migrate within bounds and which has no room
-- for that, and then it reads as before and the part without room is told; or memory was wanting. The other statuses never come.
abbrev pub StaysClosed : (within : Option StoreBounds) → (tells : Bool) → (before now : Seen) → Status → Type 0
StaysClosed within tells before now DiskFault = NotesLines (status_lines [] DiskFault) before now
StaysClosed within tells before now Damaged =
    (part : Part) × (at : ℕ) × (IsTrue tells → IsStateless before.reads part at) × (IsTrue tells → now.reads ≡ before.reads)
    × NotesLines (damaged_note part at) before now
StaysClosed within tells before now FolderFull =
    (part : Full) × IsToldFull within tells part before.reads × (IsTrue tells → now.reads ≡ before.reads) × NotesLines (full_note part) before now
StaysClosed within tells before now NoMemory = NotesLines (status_lines [] NoMemory) before now
StaysClosed within tells before now _ = ⊥

-- A folder that was not opened, by a run that migrates one of the first format within bounds, or migrates none: nothing was said. A folder whose mark
-- is not empty was left alone, unless a failed call on the disk cut its migration short. Each image that a stop may leave, at any moment
-- and at the end, stands for what one of the start stood for, or, where its migration was cut short, opens to the state to which it opened; and no
-- reply byte was taken at any moment.
pub record IsUnopened {D : Type 0} (within : Option StoreBounds) (tells : Bool) (seen : D → Seen) (stopped : D → Stopped) (desk desk_now : D) (status : Status) : Type 0 where
  pub says_nothing : (seen desk_now).said ≡ (seen desk).said
  pub alone : IsTrue tells → 0 < length ((seen desk).reads Mark) → IsLeftAlone seen stopped desk desk_now ⊎ ((s : State) × CutsMigration within status (seen desk).reads s)
  pub why : StaysClosed within tells (seen desk) (seen desk_now) status
  pub stops : IsTrue tells → Elapses (stopped desk) (stopped desk_now)
      (Now (λ image. After (StandsAsBefore kept_format) (stopped desk).images image ⊎ LeftByMigration within status (seen desk).reads image) (seen desk).said)
  pub stands : IsTrue tells → (image : Image) → (stopped desk_now).images image
      → After (StandsAsBefore kept_format) (stopped desk).images image ⊎ LeftByMigration within status (seen desk).reads image
  pub unsaid : Elapses (stopped desk) (stopped desk_now) (λ image taken. AreTaken (seen desk).said taken)

-- A run over an input whose folder was not opened: nothing was taken besides.
pub record Refuses {S D : Type 0} (bounds : StoreBounds) (tells : Bool) (seen : D → Seen) (stopped : D → Stopped) (source source_now : S) (desk desk_now : D) (status : Status) : Type 0 where
  pub takes_nothing : source_now ≡ source
  pub unopened : IsUnopened (Some bounds) tells seen stopped desk desk_now status

-- A run over an input of a form on the folder: the folder opens to a machine in a valid state and with a place, from which the run goes on.
-- Where it ended with all kept, the folder keeps the machine behind all frames of the used bytes: exactly the rows of its state, and its
-- place; and what a stop may leave then opens to that state. For whatever batches it stood once it was opened, it stands for those that the run
-- makes of them (`last_batches`); and where it kept the machine at the opening, and that is the one behind all frames, every part
-- reads as before. Where a say failed, the folder keeps the machine behind the frame whose reply was not taken whole: it is one frame ahead of
-- the replies. Where the folder was not migrated and the run carried out no Compact, the slot that did not stand reads as before, and so does the
-- mark unless it was empty. Where what granted each circuit stands at the opening, as it does of a folder begun empty, it stands behind the
-- frames of each front of the input. A folder of the first format is opened only where there is room to migrate it.
--
-- A stop at any moment of the run finds the replies to the first frames, and the folder open to the state behind them, as `StopFinds`
-- says, where all that a stop might have left before the run opens to the machine's state. Whatever it might have left, it finds that or
-- an image which stands for what one of the start stood for, with no reply byte taken.
pub record Replays {S D : Type 0} (taking : Taking) (bounds : StoreBounds) (o : Outside S D) (source source_now : S) (desk desk_now : D) (status : Status) : Type 0 where
  pub machine : Machine
  pub valid : ValidState machine.state
  pub placed : is_some machine.place ≡ true
  pub opens : IsTrue o.tells → OpensTo (o.seen desk).reads machine
  pub migrates : IsTrue o.tells → HasRoomToOpen bounds (o.seen desk).reads
  pub serves : Serves taking bounds machine (o.left source) (o.left source_now) (o.seen desk) (o.seen desk_now) status
  pub keeps : is_kept status ≡ true → IsTrue o.tells → Keeps (o.seen desk_now).reads (last_machine taking.form bounds machine (take taking.most serves.taken))
  pub found : is_kept status ≡ true → IsTrue o.tells → AllOpenTo (o.stopped desk_now).images (last_machine taking.form bounds machine (take taking.most serves.taken)).state
  pub stands : is_kept status ≡ true → IsTrue o.tells → (batches : List (List ℕ)) → StandsOpened (o.seen desk).reads machine batches
      → Stands kept_format (o.seen desk_now).reads (last_batches taking.form bounds machine (take taking.most serves.taken) batches)
  pub still : is_kept status ≡ true → IsTrue o.tells → Keeps (o.seen desk).reads machine → last_machine taking.form bounds machine (take taking.most serves.taken) ≡ machine
      → (o.seen desk_now).reads ≡ (o.seen desk).reads
  pub elsewhere : is_kept status ≡ true → IsTrue o.tells → (IsMigratedTo (o.seen desk).reads machine → ⊥) → CompactsNothing machine (last_machine taking.form bounds machine (take taking.most serves.taken))
      → LeavesOtherSlot (o.seen desk).reads (o.seen desk_now).reads
  pub ahead : status ≡ WriteFault → IsTrue o.tells → KeepsOneAhead taking.form bounds machine serves.answered serves.unanswered (o.seen desk_now).reads (o.stopped desk_now).images
  pub granted : AreGranted machine.state → (n : ℕ) → AreGranted (last_machine taking.form bounds machine (take n serves.taken)).state
  pub stops : IsTrue o.tells → AllOpenTo (o.stopped desk).images machine.state
      → Elapses (o.stopped desk) (o.stopped desk_now) (StopFinds taking.form bounds machine (events_in taking.form (take taking.most serves.taken)) (o.seen desk).said)
  pub stops_later : IsTrue o.tells → Elapses (o.stopped desk) (o.stopped desk_now)
      (λ image taken. StopFinds taking.form bounds machine (events_in taking.form (take taking.most serves.taken)) (o.seen desk).said image taken
      ⊎ Now (After (StandsAsBefore kept_format) (o.stopped desk).images) (o.seen desk).said image taken)

-- A run on some words, which ask for a line of the table of words, or for none of its lines.
--
-- Usage comes exactly where the words are no line. Then nothing is taken, the usage note is written, and the desk is left alone
-- otherwise: nothing is said, and the folder stays, at every moment.
--
-- A fault comes only where its count rose in this run. A failed take ends the run with ReadFault, and nothing is taken after it. A failed
-- say ends the run with WriteFault, and a failed call on the disk with DiskFault. No count falls, or rises by more than one.
--
-- Under `dry` the replies are the controller's, the status is the one that the input decides, and the notes tell both; the folder
-- stays. Where the words read input, Done comes once it was read to its end.
--
-- Under `replay`, and under `replay --sessions` for a trace, the folder is opened first, and migrated where it is one of the first format. Where it opens to a machine,
-- the replies are that machine's, and at the end the folder keeps the machine behind all frames; where it opens to none, or has no room to
-- be migrated, nothing is taken and said, and the folder stays.
--
-- Under `load N` nothing is taken, and the folder stays. What is said is the counts line of the state behind the generated frames of
-- the number.
--
-- Under `audit` nothing is taken, and the folder is left alone. Where it opens to a state, the counts line of that state is said; where
-- it opens to none, nothing is said.
--
-- Under `advise I S`, whose last two words are names, the same holds of the report on the identity and the service of these names.
--
-- Under `ship N` nothing is taken, and the folder is left alone, in either format. Where it opens to a state, its batches from the serial N on are
-- said as frames; where it opens to none, nothing is said. Where no call failed the run is done, or the folder is damaged or memory is wanting.
--
-- Under `follow` plain input is taken, and the folder is opened first, as under `replay`. Where it opens to a copy of a leader's folder, each frame is followed
-- from there on, and at the end the folder keeps the copy behind all frames; where it opens to none, or has no room to be migrated, nothing is taken and
-- said, and the folder stays.
--
-- Under `compact` nothing is taken and said. The folder is opened first, as under `replay`; where it opens to a machine, it is compacted, or the
-- compaction is refused for want of room, with the status FolderFull, which also tells that it has no room to be migrated.
--
-- Under all words no slot reads longer at the end than the bound, unless it read longer at the start; then it reads no longer than that. So
-- it is of what a stop may leave at the end, against what one might have left at the start.
pub record Runs {S D : Type 0} (o : Outside S D) (bounds : Bounds) (words : List (List ℕ)) (form : Option command.Form) (source source_now : S) (desk desk_now : D) (status : Status) : Type 0 where
  pub usage : (status ≡ Usage) ↔ (form ≡ None)
  pub usage_takes_nothing : form ≡ None → source_now ≡ source
  pub usage_notes_alone : form ≡ None → OnlyNotes o.seen o.stopped desk desk_now
  pub usage_changes_nothing : form ≡ None → IsLeftAlone o.seen o.stopped desk desk_now
  pub usage_note : form ≡ None → NotesLines usage_note (o.seen desk) (o.seen desk_now)
  pub read_fault : status ≡ ReadFault → Rose (o.faults source) (o.faults source_now)
  pub write_fault : status ≡ WriteFault → Rose (o.seen desk).say_faults (o.seen desk_now).say_faults
  pub failed_take : (status ≡ ReadFault → ⊥) → o.faults source_now ≡ o.faults source
  pub failed_say : (status ≡ WriteFault → ⊥) → (o.seen desk_now).say_faults ≡ (o.seen desk).say_faults
  pub read_faults_once : RisesOnce (o.faults source) (o.faults source_now)
  pub say_faults_once : RisesOnce (o.seen desk).say_faults (o.seen desk_now).say_faults
  pub disk_fault : status ≡ DiskFault → Rose (o.seen desk).disk_faults (o.seen desk_now).disk_faults
  pub failed_disk : (status ≡ DiskFault → ⊥) → (o.seen desk_now).disk_faults ≡ (o.seen desk).disk_faults
  pub disk_faults_once : RisesOnce (o.seen desk).disk_faults (o.seen desk_now).disk_faults
  pub note_faults_once : RisesOnce (o.seen desk).note_faults (o.seen desk_now).note_faults
  pub takes_until_failure : TakesUntilFailure o.left o.faults source source_now
  pub dry : form ≡ Some Dry → Serves (taking_of Plain bounds.input) no_bounds (alone start) (o.left source) (o.left source_now) (o.seen desk) (o.seen desk_now) status
  pub dry_says_and_notes_alone : form ≡ Some Dry → OnlySaysAndNotes o.seen o.stopped desk desk_now
  pub complete : form ≡ Some Dry → (Rose (o.faults source) (o.faults source_now) → ⊥) → (Rose (o.seen desk).say_faults (o.seen desk_now).say_faults → ⊥)
      → IsComplete (taking_of Plain bounds.input) no_bounds (alone start) (o.left source) (o.left source_now) (o.seen desk) (o.seen desk_now) status
  pub read_to_the_end : (asked : command.Form) → form ≡ Some asked → reads_input asked ≡ true → status ≡ Done → IsAtEnd (o.left source_now)
  pub replay : (of : Form) → form ≡ Some (Replay of)
      → Refuses (folder_bounds bounds) o.tells o.seen o.stopped source source_now desk desk_now status
      ⊎ Replays (taking_of of bounds.input) (folder_bounds bounds) o source source_now desk desk_now status
  pub load : (number : ℕ) → form ≡ Some (Load number) → SaysOneLine (counts_line (state_of_load number)) (o.seen desk) (o.seen desk_now) status
  pub load_takes_nothing : (number : ℕ) → form ≡ Some (Load number) → source_now ≡ source
  pub load_says_and_notes_alone : (number : ℕ) → form ≡ Some (Load number) → OnlySaysAndNotes o.seen o.stopped desk desk_now
  pub load_complete : (number : ℕ) → form ≡ Some (Load number) → (Rose (o.seen desk).say_faults (o.seen desk_now).say_faults → ⊥) → IsSaid (counts_line (state_of_load number)) (o.seen desk).said (o.seen desk_now).said status
  pub audit : form ≡ Some Audit
      → IsUnopened None o.tells o.seen o.stopped desk desk_now status
      ⊎ Audits o.tells (o.seen desk) (o.seen desk_now) status
  pub audit_takes_nothing : form ≡ Some Audit → source_now ≡ source
  pub audit_changes_nothing : form ≡ Some Audit → IsLeftAlone o.seen o.stopped desk desk_now
  pub advise : (i s : List ℕ) → words ≡ codes "advise" ∷ i ∷ s ∷ [] → form ≡ Some Advise
      → IsUnopened None o.tells o.seen o.stopped desk desk_now status
      ⊎ Advises i s o.tells (o.seen desk) (o.seen desk_now) status
  pub advise_takes_nothing : form ≡ Some Advise → source_now ≡ source
  pub advise_changes_nothing : form ≡ Some Advise → IsLeftAlone o.seen o.stopped desk desk_now
  pub ship : (from : ℕ) → form ≡ Some (Ship from)
      → IsUnopened None o.tells o.seen o.stopped desk desk_now status
      ⊎ Ships from o.tells (o.seen desk) (o.seen desk_now) status
  pub ship_takes_nothing : (from : ℕ) → form ≡ Some (Ship from) → source_now ≡ source
  pub ship_changes_nothing : (from : ℕ) → form ≡ Some (Ship from) → IsLeftAlone o.seen o.stopped desk desk_now
  pub ship_complete : (from : ℕ) → form ≡ Some (Ship from) → (Rose (o.seen desk).say_faults (o.seen desk_now).say_faults → ⊥) → (Rose (o.seen desk).disk_faults (o.seen desk_now).disk_faults → ⊥)
      → (status ≡ Done) ⊎ (status ≡ Damaged) ⊎ (status ≡ NoMemory)
  pub follow : form ≡ Some Follow
      → Refuses (folder_bounds bounds) o.tells o.seen o.stopped source source_now desk desk_now status
      ⊎ Copies (taking_of Plain bounds.input) (folder_bounds bounds) o source source_now desk desk_now status
  pub compact : form ≡ Some Compact
      → IsUnopened (Some (folder_bounds bounds)) o.tells o.seen o.stopped desk desk_now status
      ⊎ Compacts (folder_bounds bounds) o.tells (o.seen desk) (o.seen desk_now) (o.stopped desk) (o.stopped desk_now) status
  pub compact_takes_nothing : form ≡ Some Compact → source_now ≡ source
  pub compact_says_nothing : form ≡ Some Compact → (o.seen desk_now).said ≡ (o.seen desk).said
  pub room : HoldsRoom o.tells (folder_bounds bounds).slot o.seen o.stopped desk desk_now

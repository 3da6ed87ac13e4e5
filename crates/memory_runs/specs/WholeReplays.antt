-- What a replay comes to over a folder that tells its bytes, where no call failed and memory sufficed: equalities alone, for every input and
-- every folder (docs/PROMISES.md, "The headline without 'where told'").
use Rattle.std.specs.Prelude.{◌≡◌, ℕ, ◌≤◌, nat_lt, Bool, false, IsTrue, List, [], ◌++◌, length, take, Some}
use Rattle.ziti_outside.specs.Told.{IsFront}
use Rattle.ziti_outside.specs.declared.desk.Part.{Part}
use Rattle.ziti_outside.specs.Images.{Image}
use Rattle.ziti_outside.specs.Views.{Seen, Stopped}
use Rattle.ctrl_model.specs.State.{start}
use Rattle.journal_core.specs.Slots.{slot_end}
use Rattle.slot_files.specs.FolderImage.{Stands}
use Rattle.row_store.specs.declared.bounds.StoreBounds.{StoreBounds}
use Rattle.row_store.specs.OpenedStates.{IsStateless, OpensToState}
use Rattle.ctrl_keep.specs.KeptMachine.{Machine}
use Rattle.session_mux.specs.declared.sessions.Form.{Form}
use Rattle.session_mux.specs.Completion.{completed}
use Rattle.run_notes.specs.declared.ends.Full.{Full}
use Rattle.run_notes.specs.declared.status.Status.{Status}
use Rattle.run_notes.specs.declared.status.Status.TheVariants.{Damaged, FolderFull}
use Rattle.run_notes.specs.Endings.{ending}
use Rattle.run_notes.specs.Inputs.{events_in}
use Rattle.run_notes.specs.Notes.{damaged_note, full_note, notes_of}
use Rattle.ctrl_serve.specs.FrameAnswer.{each_reply, last_batches, last_machine, replies}
use Rattle.ctrl_serve.specs.Headline.{folder_bounds, program_bounds}
use Rattle.ctrl_serve.specs.OpenedFolders.{Keeps, IsMigratedTo, StandsOpened}
use Rattle.ctrl_serve.specs.Reading.{is_decided}
use Rattle.ctrl_serve.specs.RunStops.{HoldsFirst, StopFinds}
use Rattle.ctrl_serve.specs.SaidReplies.{joined}
use Rattle.ctrl_serve.specs.UncompactedFolders.{CompactsNothing, LeavesOtherSlot}
use Rattle.ctrl_core.specs.KeptFormat.{kept_format}

-- The bytes of an input that the program uses: the first 2^32.
abbrev pub used : List ℕ → List ℕ
used input = take program_bounds.input input

-- Whether an input is longer than that.
abbrev pub is_longer : List ℕ → Bool
is_longer input = nat_lt program_bounds.input (length input)

-- The bounds of the program's folder.
abbrev pub bounds : StoreBounds
bounds = folder_bounds program_bounds

-- The machine to which a folder without a byte opens: the state at the start, and a journal that goes on at the first gate of its first slot.
abbrev pub new_machine : Machine
new_machine = record { state = start; place = Some (record { end = slot_end []; mark = 1 }) }

-- A desk of which no call was made, and which tells all: nothing was said or noted, no note failed, no moment has passed, and a stop
-- finds the folder as it reads.
pub record IsNew (tells : Bool) (seen : Seen) (stopped : Stopped) : Type 0 where
  pub told : IsTrue tells
  pub unsaid : seen.said ≡ Some []
  pub unnoted : seen.noted ≡ Some []
  pub calm : seen.note_faults ≡ 0
  pub first : stopped.moment ≡ 0
  pub still : (image : Image) → stopped.images image → image ≡ seen.reads

-- On a new desk these lines were noted: all of them where no note failed, else a front of them.
pub record IsNoted (lines : List ℕ) (now : Seen) : Type 0 where
  pub part : List ℕ
  pub front : IsFront part lines
  pub noted : now.noted ≡ Some part
  pub whole : now.note_faults ≡ 0 → part ≡ lines

-- What was noted of an input at a status: the faults among its events, in order, and how the run ended. The place of a bad record, and what is
-- left of the sessions, are those of a front of the used bytes: of all of them, or of one that decides the input.
pub record NotesInput (form : Form) (input : List ℕ) (status : Status) (now : Seen) : Type 0 where
  pub front : List ℕ
  pub more : List ℕ
  pub split : front ++ more ≡ used input
  pub all : is_decided form front ≡ false → more ≡ []
  pub lines : IsNoted (notes_of form (events_in form (used input)) front status) now

-- A whole replay of an input, from the machine to which the folder opened. It ended as the used bytes decide. Exactly the replies to their
-- frames were said, each whole and in order. The folder keeps the machine behind all of them, and so opens to its state; it stands for the
-- batches that the machine's steps make of those for which it stood once it was opened; and where it kept the machine at the opening, and that is
-- the one behind all frames, every part reads as before. Where it was not migrated and the machine's steps compact nothing, the slot that did not
-- stand reads as before, and so does the mark unless it was empty.
pub record IsWhole (form : Form) (machine : Machine) (input : List ℕ) (before : Image) (now : Seen) (status : Status) : Type 0 where
  pub ends : status ≡ ending form (used input) (is_longer input)
  pub said : now.said ≡ Some (replies form bounds machine (used input))
  pub notes : NotesInput form input status now
  pub keeps : Keeps now.reads (last_machine form bounds machine (used input))
  pub opens : OpensToState now.reads (last_machine form bounds machine (used input)).state
  pub stands : (batches : List (List ℕ)) → StandsOpened before machine batches → Stands kept_format now.reads (last_batches form bounds machine (used input) batches)
  pub same : Keeps before machine → last_machine form bounds machine (used input) ≡ machine → now.reads ≡ before
  pub elsewhere : (IsMigratedTo before machine → ⊥) → CompactsNothing machine (last_machine form bounds machine (used input)) → LeavesOtherSlot before now.reads

-- What a stop at any moment of such a replay finds: the first frames of the input answered, and maybe one in its turn, with the folder open
-- to the state behind them (`StopFinds`). If of the reply bytes that were taken by then the first so many replies are a front, the folder
-- opens to the state behind so many frames at least (`HoldsFirst`).
pub record IsSafe (form : Form) (machine : Machine) (input : List ℕ) (stopped : Stopped) : Type 0 where
  pub finds : (image : Image) (taken : List ℕ) → stopped.since 0 image taken → StopFinds form bounds machine (events_in form (used input)) (Some []) image taken
  pub holds : (image : Image) (taken : List ℕ) (count : ℕ) → stopped.since 0 image taken → count ≤ length (completed form (used input))
      → IsFront (joined (take count (each_reply form bounds machine (used input)))) taken → HoldsFirst form bounds machine (used input) count image taken

-- A replay on a folder that opens to no state: its status and its note tell the first damage, nothing was said, and every part reads as before.
pub record IsRefused (part : Part) (at : ℕ) (before : Image) (now : Seen) (status : Status) : Type 0 where
  pub ends : status ≡ Damaged
  pub said : now.said ≡ Some []
  pub lines : IsNoted (damaged_note part at) now
  pub same : now.reads ≡ before

-- A replay on a folder of the first format that has no room to be migrated, in this part: its status and its note tell that, nothing was said, and
-- every part reads as before.
pub record IsFull (part : Full) (before : Image) (now : Seen) (status : Status) : Type 0 where
  pub ends : status ≡ FolderFull
  pub said : now.said ≡ Some []
  pub lines : IsNoted (full_note part) now
  pub same : now.reads ≡ before

-- What the word `follow` makes of a folder (docs/PROMISES.md, "The headline").
use Rattle.std.specs.Prelude.{◌≡◌, ◌⊎◌, ℕ, Bool, true, IsTrue, IsSomeAnd, List, [], length, take, None, Some, ⊤}
use Rattle.std.specs.declared.option.Option.{Option}
use Rattle.std.specs.Option.{option_map, option_map_or}
use Rattle.ziti_outside.specs.declared.desk.Part.TheVariants.{Mark}
use Rattle.ziti_outside.specs.Images.{Image, After}
use Rattle.ziti_outside.specs.Moments.{Now, Elapses}
use Rattle.ziti_outside.specs.Views.{Outside}
use Rattle.channel_frame.specs.declared.frames.Frame.{Frame}
use Rattle.channel_frame.specs.FrameSpelling.{spelling}
use Rattle.ctrl_model.specs.State.{State}
use Rattle.ctrl_model.specs.ValidState.{ValidState}
use Rattle.ctrl_core.specs.KeptFormat.{kept_format}
use Rattle.journal_core.specs.Slots.{slot_end}
use Rattle.slot_files.specs.FolderImage.{Stands, StandsAsBefore}
use Rattle.row_store.specs.declared.bounds.StoreBounds.{StoreBounds}
use Rattle.row_store.specs.OpenedStates.{byte_rows_of, OpensToState}
use Rattle.ctrl_keep.specs.KeptMachine.{Machine}
use Rattle.follow_core.specs.Following.{Copy, follow, own_serial}
use Rattle.follow_core.specs.TakenReplies.{taken_frame}
use Rattle.session_mux.specs.declared.events.Event.{Event}
use Rattle.session_mux.specs.declared.sessions.Form.{Form}
use Rattle.run_notes.specs.declared.status.Status.{Status}
use Rattle.run_notes.specs.declared.status.Status.TheVariants.{WriteFault}
use Rattle.run_notes.specs.Endings.{is_kept}
use Rattle.run_notes.specs.Inputs.{events_in}
use Rattle.serve_loop.specs.Answerers.{Answerer, seen_by}
use Rattle.serve_loop.specs.AnsweredFrames.{last_machine}
use Rattle.serve_loop.specs.RunStops.{StopFinds}
use Rattle.serve_loop.specs.ServedInputs.{Serves, Taking}
use Rattle.serve_loop.specs.UnsaidReplies.{IsOneAhead}
use Rattle.ctrl_serve.specs.MigratedRuns.{HasRoomToOpen}
use Rattle.ctrl_serve.specs.OpenedFolders.{OpensTo, StandsOpened}

-- An image opens to a copy: to a state, of which the copy has the rows.
pub record OpensToCopy (image : Image) (c : Copy) : Type 0 where
  pub state : State
  pub opens : OpensToState image state
  pub rows : c.rows ≡ byte_rows_of kept_format state

-- All of these images open to the copy, and there is one.
abbrev pub AllOpenToCopy : (Image → Type 0) → Option Copy → Type 0
AllOpenToCopy images m = (image : Image) → images image → IsSomeAnd m (OpensToCopy image)

-- A folder keeps a copy: it opens to it, and stands for its records behind a mark of its length.
pub record KeepsCopy (image : Image) (c : Copy) : Type 0 where
  pub opens : OpensToCopy image c
  pub stands : Stands kept_format image c.records
  pub mark : length (image Mark) ≡ c.mark

-- A folder is a copy once it is opened, as by `replay`: it opens to a machine, of whose state the copy has the rows; the copy's records are those for
-- which it stands then, and behind them and the mark is the machine's place; and no batch is in parts.
pub record OpensAsCopy (image : Image) (c : Copy) : Type 0 where
  pub machine : Machine
  pub valid : ValidState machine.state
  pub opens : OpensTo image machine
  pub rows : c.rows ≡ byte_rows_of kept_format machine.state
  pub records : StandsOpened image machine c.records
  pub place : machine.place ≡ Some (record { end = slot_end c.records; mark = c.mark })
  pub parts : c.parts ≡ None

-- The frame that answers a frame: what became of it, and the serial of the copy behind it.
abbrev pub copy_reply : StoreBounds → (sequence : ℕ) → Frame → Copy → Frame
copy_reply bounds sequence f c = taken_frame sequence f.sequence (own_serial (follow bounds f c).1) (follow bounds f c).0

-- A follower within the bounds of its folder, as who answers, whoever sends. Its machine is the copy, of a folder that is told, and none of one that is
-- not: what it answers hangs on the records that its folder reads. The folder opens to the copy.
abbrev pub follower : StoreBounds → Answerer (Option Copy)
follower bounds = record {
  next = λ who f m. option_map (λ c. (follow bounds f c).1) m;
  reply = λ sequence who f m. option_map_or (λ c. spelling (copy_reply bounds sequence f c)) m [];
  opens = λ image m. IsSomeAnd m (OpensToCopy image);
  follows = λ m next before now. ⊤;
}

-- The folder keeps the copy one frame ahead of the answered events, and all that a stop may leave opens to it.
pub record KeepsCopyAhead (form : Form) (bounds : StoreBounds) (m : Option Copy) (answered unanswered : List Event) (reads : Image) (images : Image → Type 0) : Type 0 where
  pub machine : Option Copy
  pub ahead : IsOneAhead form (follower bounds) m answered unanswered machine
  pub keeps : IsSomeAnd machine (KeepsCopy reads)
  pub found : AllOpenToCopy images machine

-- A run of `follow` over plain input, on a folder that opens to a copy of a leader's, once it is opened as by `replay`. Each frame of the input is followed,
-- and the replies are those of following from that copy on. Of a folder that is not told nothing is said of the bytes of the replies: they hang on
-- what it reads; all else that is said of the run is so of it too.
--
-- Where the run ended with all kept, the folder keeps the copy behind all frames of the used bytes, and what a stop may leave then opens to it. Where a
-- say failed, the folder keeps the copy behind the frame whose reply was not taken whole. A folder of the first format is opened only where there is
-- room to migrate it.
--
-- A stop at any moment of the run finds the replies to the first frames, and the folder open to the copy behind them, as `StopFinds` says, where all that
-- a stop might have left before the run opens to the copy. Whatever it might have left, it finds that or an image which stands for what one of the
-- start stood for, with no reply byte taken.
pub record Copies {S D : Type 0} (taking : Taking) (bounds : StoreBounds) (o : Outside S D) (source source_now : S) (desk desk_now : D) (status : Status) : Type 0 where
  pub machine : Option Copy
  pub opens : IsTrue o.tells → IsSomeAnd machine (OpensAsCopy (o.seen desk).reads)
  pub migrates : IsTrue o.tells → HasRoomToOpen bounds (o.seen desk).reads
  pub serves : Serves taking (follower bounds) machine (o.left source) (o.left source_now) (seen_by true o.tells (o.seen desk)) (seen_by true o.tells (o.seen desk_now)) status
  pub keeps : is_kept status ≡ true → IsTrue o.tells → IsSomeAnd (last_machine taking.form (follower bounds) machine (take taking.most serves.taken)) (KeepsCopy (o.seen desk_now).reads)
  pub found : is_kept status ≡ true → IsTrue o.tells → AllOpenToCopy (o.stopped desk_now).images (last_machine taking.form (follower bounds) machine (take taking.most serves.taken))
  pub ahead : status ≡ WriteFault → IsTrue o.tells → KeepsCopyAhead taking.form bounds machine serves.answered serves.unanswered (o.seen desk_now).reads (o.stopped desk_now).images
  pub stops : IsTrue o.tells → AllOpenToCopy (o.stopped desk).images machine
      → Elapses (o.stopped desk) (o.stopped desk_now) (StopFinds taking.form (follower bounds) machine (events_in taking.form (take taking.most serves.taken)) (o.seen desk).said)
  pub stops_later : IsTrue o.tells → Elapses (o.stopped desk) (o.stopped desk_now)
      (λ image taken. StopFinds taking.form (follower bounds) machine (events_in taking.form (take taking.most serves.taken)) (o.seen desk).said image taken
      ⊎ Now (After (StandsAsBefore kept_format) (o.stopped desk).images) (o.seen desk).said image taken)

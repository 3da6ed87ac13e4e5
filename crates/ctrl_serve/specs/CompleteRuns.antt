-- What the runs on a folder come to where no call failed but a note (docs/PROMISES.md, "The headline").
use Rattle.std.specs.Prelude.{◌≡◌, ◌⊎◌, ℕ, List, Some}
use Rattle.std.specs.declared.option.Option.{Option}
use Rattle.ziti_outside.specs.Causes.{Rose}
use Rattle.ziti_outside.specs.Images.{Image}
use Rattle.ziti_outside.specs.Views.{Seen}
use Rattle.ctrl_model.specs.declared.replies.Reply.TheVariants as reply
use Rattle.ctrl_model.specs.State.{State}
use Rattle.row_store.specs.declared.bounds.StoreBounds.{StoreBounds}
use Rattle.ctrl_keep.specs.KeptMachine.{Machine}
use Rattle.run_notes.specs.declared.ends.Full.{Full}
use Rattle.run_notes.specs.declared.status.Status.{Status}
use Rattle.run_notes.specs.declared.status.Status.TheVariants.{Done, FolderFull}
use Rattle.ctrl_core.specs.KeptFormat.{kept_format}
use Rattle.row_store.specs.OpenedStates.{byte_rows_of}
use Rattle.follow_core.specs.Following.{Copy}
use Rattle.serve_loop.specs.ServedInputs as loop
use Rattle.ctrl_serve.specs.FollowWords.{OpensAsCopy, follower}
use Rattle.ctrl_serve.specs.OpenedFolders.{OpensTo}
use Rattle.ctrl_serve.specs.FolderWords.{compaction, refusal_of}
use Rattle.ctrl_serve.specs.Headline.{Completes, Taking}
use Rattle.ctrl_serve.specs.MigratedRuns.{HasRoomToOpen, LacksRoom}

-- No call of a kind failed: the count of its faults did not rise.
abbrev pub IsCalm : (before now : ℕ) → Type 0
IsCalm before now = Rose before now → ⊥

-- A folder has no room to be migrated, and that is told.
abbrev pub IsFull : StoreBounds → Image → Status → Type 0
IsFull bounds reads status = (status ≡ FolderFull) × (full : Full) × LacksRoom full bounds reads

-- A run over an input on a folder with a state is complete: it is so from the machine to which the folder opens, which has that state. A folder of
-- the first format has room to be migrated then.
abbrev pub CompletesFrom : State → Taking → StoreBounds → (left_before left_now : Option (List ℕ)) (before now : Seen) → Status → Type 0
CompletesFrom s taking bounds left left_now before now status =
    (m : Machine) × OpensTo before.reads m × (m.state ≡ s) × HasRoomToOpen bounds before.reads × Completes taking bounds m left left_now before now status

-- A run that follows on a folder with a state is complete: it is so from the copy that the folder is once it is opened, which has the rows of that
-- state. A folder of the first format has room to be migrated then.
abbrev pub CompletesCopy : State → Taking → StoreBounds → (left_before left_now : Option (List ℕ)) (before now : Seen) → Status → Type 0
CompletesCopy s taking bounds left left_now before now status =
    (c : Copy) × OpensAsCopy before.reads c × (c.rows ≡ byte_rows_of kept_format s) × HasRoomToOpen bounds before.reads
    × loop.Completes taking (follower bounds) (Some c) left left_now before now status

-- A compaction came out as the machine's step does: it was done, or refused since a part has no room.
abbrev pub ComesOut : StoreBounds → Machine → Status → Type 0
ComesOut bounds m status =
    ((status ≡ Done) × ((compaction bounds m).0 ≡ reply.Done))
    ⊎ ((status ≡ FolderFull) × (full : Full) × ((compaction bounds m).0 ≡ reply.Refused (refusal_of full)))

-- So it did of the machine to which a folder with a state opens, which has that state. A folder of the first format has room to be migrated then.
abbrev pub ComesOutFrom : State → Image → StoreBounds → Status → Type 0
ComesOutFrom s reads bounds status = (m : Machine) × OpensTo reads m × (m.state ≡ s) × HasRoomToOpen bounds reads × ComesOut bounds m status

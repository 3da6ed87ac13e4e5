-- What taking a frame makes of a follower and its folder (docs/PROMISES.md, "Following").
use Rattle.std.specs.Prelude.{◌≡◌, ℕ, List}
use Rattle.std.specs.declared.option.Option.{Option}
use Rattle.ziti_outside.specs.Images.{Image}
use Rattle.ship_frames.specs.declared.shipments.Shipment.{Shipment}
use Rattle.ship_frames.specs.GatheredPieces.{Parts}
use Rattle.row_store.specs.StoredRows.{Stored}
use Rattle.row_store.specs.OpenedStates.{OpensToState}
use Rattle.ctrl_model.specs.State.{State}
use Rattle.ctrl_model.specs.declared.formats.Format.TheVariants.{Two}
use Rattle.channel_frame.specs.declared.frames.Frame.{Frame}
use Rattle.slot_files.specs.FolderImage.{Stands}
use Rattle.follow_core.specs.declared.taken.Taken.{Taken}
use Rattle.follow_core.specs.FollowedCopies.{Followed, copy_of}
use Rattle.follow_core.specs.Following.{Copy, follow, received}

-- The copy behind a frame, of a follower whose folder stands for some records.
abbrev pub copy_behind_frame : Frame → (records : List (List ℕ)) → Followed → Copy
copy_behind_frame frame records f = (follow f.stored.bounds frame (copy_of records f)).1

-- A frame was taken as following has it, by a follower whose folder stood for some records: this is the answer, the follower is the copy behind the frame, and
-- the folder stands for its records.
pub record IsTaken (frame : Frame) (records : List (List ℕ)) (old new : Followed) (reads : Image) (taken : Taken) : Type 0 where
  pub answer : taken ≡ (follow old.stored.bounds frame (copy_of records old)).0
  pub copy : copy_of (copy_behind_frame frame records old).records new ≡ copy_behind_frame frame records old
  pub folder : Stands Two reads (copy_behind_frame frame records old).records

-- An image opens to a state.
pub record OpensToSome (image : Image) : Type 0 where
  pub state : State
  pub opens : OpensToState image state

-- The copy that a store is, with a batch in parts, where its folder stands for some records.
abbrev pub copy_in : (records : List (List ℕ)) → Stored → Option Parts → Copy
copy_in records stored parts = record { records = records; rows = stored.rows; mark = stored.mark; parts = parts }

-- The copy behind a batch that is whole.
abbrev pub copy_behind_batch : Shipment → (records : List (List ℕ)) → Stored → Option Parts → Copy
copy_behind_batch s records stored parts = (received stored.bounds s (copy_in records stored parts)).1

-- A batch that is whole was received so, by a store whose folder stood for some records.
pub record IsReceived (s : Shipment) (records : List (List ℕ)) (parts : Option Parts) (old new : Stored) (reads : Image) (taken : Taken) : Type 0 where
  pub answer : taken ≡ (received old.bounds s (copy_in records old parts)).0
  pub copy : copy_in (copy_behind_batch s records old parts).records new parts ≡ copy_behind_batch s records old parts
  pub folder : Stands Two reads (copy_behind_batch s records old parts).records

-- The copy behind a frame, of a store whose folder stood for some records, beside a batch in parts.
abbrev pub copy_behind_taking : Frame → (records : List (List ℕ)) → Option Parts → Stored → Copy
copy_behind_taking frame records parts stored = (follow stored.bounds frame (copy_in records stored parts)).1

-- A frame was taken as following has it.
pub record FollowsSo (frame : Frame) (records : List (List ℕ)) (parts later : Option Parts) (old new : Stored) (reads : Image) (taken : Taken) : Type 0 where
  pub answer : taken ≡ (follow old.bounds frame (copy_in records old parts)).0
  pub copy : copy_in (copy_behind_taking frame records parts old).records new later ≡ copy_behind_taking frame records parts old
  pub folder : Stands Two reads (copy_behind_taking frame records parts old).records

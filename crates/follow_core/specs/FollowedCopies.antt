-- What a follower has, and the copy that it is of the folder at its desk (docs/PROMISES.md, "Following").
use Rattle.std.specs.Prelude.{◌≡◌, ⊤, ℕ, ◌+◌, List, [], ◌∷◌, ◌++◌, length, None, Some}
use Rattle.std.specs.declared.option.Option.{Option}
use Rattle.std.specs.Option.{unwrap_or}
use Rattle.ziti_outside.specs.Images.{Image}
use Rattle.ctrl_model.specs.declared.formats.Format.TheVariants.{Two}
use Rattle.ctrl_model.specs.State.{State}
use Rattle.ctrl_model.specs.ValidState.{ValidState}
use Rattle.ship_frames.specs.GatheredPieces.{Parts}
use Rattle.journal_core.specs.Slots.{slot_end}
use Rattle.slot_files.specs.FolderImage.{Stands}
use Rattle.slot_reading.specs.BatchRows.{serial_of}
use Rattle.row_store.specs.OpenedStates.{byte_rows_of}
use Rattle.row_store.specs.StoredRows.{Stored, ReadsAs}
use Rattle.follow_core.specs.declared.sought.Sought.{Sought}
use Rattle.follow_core.specs.Following.{Copy}

-- A follower: its store, the batch in parts, and where kept records are sought, if some were.
pub record Followed : Type 0 where
  pub stored : Stored
  pub parts : Option Parts
  pub sought : Option Sought

-- The serial of the rows of a store, and 0 where they tell none.
abbrev pub serial_in_store : Stored → ℕ
serial_in_store stored = unwrap_or (serial_of stored.rows) 0

-- The copy that a follower is, where its folder stands for some records.
abbrev pub copy_of : List (List ℕ) → Followed → Copy
copy_of records f = record { records = records; rows = f.stored.rows; mark = f.stored.mark; parts = f.parts }

-- Of some records, of which the last has this own serial, the first has one serial and the gate behind it stands at a place, and so does that behind
-- the record of another serial.
pub record IsSoughtIn (records : List (List ℕ)) (own : ℕ) (sought : Sought) : Type 0 where
  pub whole : List ℕ
  pub before : List (List ℕ)
  pub after : List (List ℕ)
  pub split : records ≡ whole ∷ (before ++ after)
  pub second : sought.second ≡ slot_end (whole ∷ [])
  pub place : sought.at ≡ slot_end (whole ∷ before)
  pub serial : sought.serial + length after ≡ own
  pub first : sought.first + length before ≡ sought.serial

-- Where kept records are sought they are found.
abbrev pub AreSoughtIn : List (List ℕ) → (own : ℕ) → Option Sought → Type 0
AreSoughtIn records own None = ⊤
AreSoughtIn records own (Some sought) = IsSoughtIn records own sought

-- The folder reads as a follower stands: as its store does, and its kept records are found where they are sought.
pub record StandsAs (f : Followed) (reads : Image) (images : Image → Type 0) : Type 0 where
  pub stored : ReadsAs f.stored reads images
  pub sought : (records : List (List ℕ)) → Stands Two reads records → AreSoughtIn records (serial_in_store f.stored) f.sought

-- The store of a follower has, in the second format, exactly the rows of a state, which is valid.
pub record HoldsState (stored : Stored) : Type 0 where
  pub format : stored.format ≡ Two
  pub state : State
  pub valid : ValidState state
  pub rows : stored.rows ≡ byte_rows_of Two state

-- What contracts see of a follower as what answers a run, and the records that its folder reads. Only private contracts cite these.
use Rattle.std.specs.Prelude.{◌≡◌, ℕ, ◌<◌, ◌==◌, Bool, true, not, cond, List, [], ◌∷◌, length, take, drop, None, Some}
use Rattle.std.specs.declared.option.Option.{Option}
use Rattle.std.specs.Int.{w32, from_le_bytes}
use Rattle.ziti_outside.specs.declared.desk.Part.TheVariants.{Mark}
use Rattle.ziti_outside.specs.Images.{Image}
use Rattle.ctrl_model.specs.declared.formats.Format.TheVariants.{Two}
use Rattle.slot_files.specs.FolderImage.{slot_of, Stands}
use Rattle.row_store.specs.declared.bounds.StoreBounds.{StoreBounds}
use Rattle.row_store.specs.StoredRows.{IsStoreOf}
use Rattle.follow_core.specs.Following.{Copy}
use Rattle.follow_core.specs.FollowedCopies.{AreSoughtIn, Followed, HoldsState, copy_of, serial_in_store}
use Rattle.serve_loop.specs.Answerers.{Needs, Serving}

-- The length that stands before a record's payload.
abbrev pub payload_len : List ℕ → ℕ
payload_len bytes = from_le_bytes w32 (take 4 bytes)

-- The payloads of the records behind open gates at the front of bytes, in at most as many steps as a list is long.
abbrev pub payloads_within : (steps : List ℕ) → List ℕ → List (List ℕ)
payloads_within [] bytes = []
payloads_within (step ∷ steps) [] = []
payloads_within (step ∷ steps) (gate ∷ bytes) =
    cond (gate == 1) (take (payload_len bytes) (drop 4 bytes) ∷ payloads_within steps (drop (payload_len bytes) (drop 4 bytes))) []

-- The payloads of the records of a slot.
abbrev pub payloads_in : (slot : List ℕ) → List (List ℕ)
payloads_in slot = payloads_within slot (drop 8 slot)

-- The records of the slot that stands in a folder whose mark is not empty.
abbrev pub records_in : Image → List (List ℕ)
records_in image = payloads_in (image (slot_of (length (image Mark))))

-- The copy that a follower is, of a told folder as it reads; of one that is not told, none.
abbrev pub copy_at : (tells : Bool) → Image → Followed → Option Copy
copy_at tells reads f = cond tells (Some (copy_of (records_in reads) f)) None

-- A follower: its bounds, with a folder, unless it is spent.
abbrev pub copy_serving : Followed → Serving StoreBounds
copy_serving f = record { bounds = f.stored.bounds; slot = f.stored.bounds.slot; folder = true; able = not f.stored.spent }

-- It needs the rows of a valid state, and that the folder reads as its store stands, with kept records where they are sought and nothing pending in the mark
-- and the slot that stands.
abbrev pub copy_needs : Followed → Needs
copy_needs f = record {
  holds = HoldsState f.stored;
  reads = λ reads. (0 < f.stored.mark) × IsStoreOf reads f.stored × ((records : List (List ℕ)) → Stands Two reads records → AreSoughtIn records (serial_in_store f.stored) f.sought);
  leaves = λ reads image. (image Mark ≡ reads Mark) × (image f.stored.part ≡ reads f.stored.part);
}

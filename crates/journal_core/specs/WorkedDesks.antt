-- A desk at its smallest, for examples of what a call leaves alone.
use Rattle.std.specs.Prelude.{◌≡◌, ◌⊎◌, ℕ, zero, suc, List, [], Some}
use Rattle.ziti_outside.specs.Images.{Image}
use Rattle.ziti_outside.specs.Views.{Seen, Stopped}
use Rattle.ctrl_model.specs.declared.formats.Format.TheVariants as format
use Rattle.journal_core.specs.WorkedSlots.{empty_slot, slot_of_ann, folder_of}

-- How many calls were made of it, none or one; what its folder reads; the one image that a stop finds now; and the one that a stop found
-- before the call.
pub record SmallDesk : Type 0 where
  pub calls : ℕ
  pub reads : Image
  pub found : Image
  pub before : Image

-- Nothing was said and noted, and no call failed.
abbrev pub small_seen : SmallDesk → Seen
small_seen desk = record { said = Some []; noted = Some []; say_faults = 0; note_faults = 0; disk_faults = 0; reads = desk.reads }

-- The images that a stop may leave from before the call on, or from behind it on.
abbrev pub small_since : SmallDesk → ℕ → Image → Type 0
small_since desk zero image = (image ≡ desk.before) ⊎ (image ≡ desk.found)
small_since desk (suc time) image = image ≡ desk.found

-- Each with no reply.
abbrev pub small_stopped : SmallDesk → Stopped
small_stopped desk = record { moment = desk.calls; images = λ image. image ≡ desk.found; since = λ time image taken. small_since desk time image × (taken ≡ []) }

-- A desk of which no call was made, and in whose folder nothing is pending.
abbrev pub fresh : Image → SmallDesk
fresh folder = record { calls = 0; reads = folder; found = folder; before = folder }

-- That desk behind a call: its folder reads so, and a stop finds this.
abbrev pub behind : Image → (reads found : Image) → SmallDesk
behind folder reads found = record { calls = 1; reads = reads; found = found; before = folder }

-- A folder of two slots without a record.
abbrev pub two_slots : Image
two_slots = folder_of (empty_slot format.One) (empty_slot format.One)

-- The same with the first batch in the first one.
abbrev pub first_batch : Image
first_batch = folder_of (slot_of_ann format.One) (empty_slot format.One)

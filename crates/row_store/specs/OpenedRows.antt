-- The rows to which an image of the folder opens, and where it is damaged if it opens to none (docs/FORMATS.md, "Damage").
use Rattle.std.specs.Prelude.{◌≡◌, ◌⊎◌, ℕ, ◌<◌, List, length}
use Rattle.ziti_outside.specs.declared.desk.Part.{Part}
use Rattle.ziti_outside.specs.declared.desk.Part.TheVariants.{Mark}
use Rattle.ziti_outside.specs.Told.{IsFront}
use Rattle.ziti_outside.specs.Images.{Image}
use Rattle.ctrl_model.specs.declared.formats.Format.{Format}
use Rattle.journal_core.specs.Slots.{header}
use Rattle.slot_files.specs.FolderImage.{slot_of, Stands}
use Rattle.slot_reading.specs.BatchRows.{ByteRows, Give}
use Rattle.slot_reading.specs.SlotReading.{BreaksOff}

-- An image opens to these rows of a format: it stands for batches of it that give them.
pub record OpensTo (format : Format) (image : Image) (rows : ByteRows) : Type 0 where
  pub batches : List (List ℕ)
  pub stands : Stands format image batches
  pub give : Give format batches rows

-- The bytes begin with the header of a slot of no format, which is told at the place 0.
pub record HasNoHeader (bytes : List ℕ) (at : ℕ) : Type 0 where
  pub place : at ≡ 0
  pub other : (format : Format) → IsFront (header format) bytes → ⊥

-- The bytes are damaged at a place: they do not begin as a slot, or they begin as one of a format and break off there.
abbrev pub IsBroken : List ℕ → (at : ℕ) → Type 0
IsBroken bytes at = HasNoHeader bytes at ⊎ ((format : Format) × BreaksOff format bytes at)

-- An image is damaged at a place of a part: its mark is not empty, and the slot that it names does not begin as a slot, or breaks
-- off there. The first such place is told.
pub record IsDamagedAt (image : Image) (part : Part) (at : ℕ) : Type 0 where
  pub some : 0 < length (image Mark)
  pub named : part ≡ slot_of (length (image Mark))
  pub cause : IsBroken (image part) at

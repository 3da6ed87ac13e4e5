-- What the bytes of the folder stand for, by the mark's length and the slot that it names (docs/FORMATS.md, "The mark").
use Rattle.std.specs.Prelude.{◌≡◌, ℕ, zero, suc, ◌-◌, ◌%◌, ◌<◌, List, [], length, if◌then◌else◌, ◌==◌, None, Some}
use Rattle.std.specs.declared.option.Option.{Option}
use Rattle.ziti_outside.specs.declared.desk.Part.{Part}
use Rattle.ziti_outside.specs.declared.desk.Part.TheVariants.{Zero, One, Mark}
use Rattle.ziti_outside.specs.Images.{Image}
use Rattle.ziti_outside.specs.Told.{IsFront}
use Rattle.ctrl_model.specs.declared.formats.Format.{Format}
use Rattle.journal_core.specs.Slots.{Slot, header}

-- The slot that a mark of so many bytes names: the first, the second, and so on by turns.
abbrev pub slot_of : ℕ → Part
slot_of mark = if (mark - 1) % 2 == 0 then Zero else One

-- The format whose header some bytes are, or none where they are the header of none.
abbrev pub IsHeaderOf : List ℕ → Option Format → Type 0
IsHeaderOf bytes None = (format : Format) → bytes ≡ header format → ⊥
IsHeaderOf bytes (Some format) = bytes ≡ header format

-- The format with whose header some bytes begin, or none where they begin with the header of none.
abbrev pub BeginsAs : List ℕ → Option Format → Type 0
BeginsAs bytes None = (format : Format) → IsFront (header format) bytes → ⊥
BeginsAs bytes (Some format) = IsFront (header format) bytes

-- With an empty mark an image stands for no batches, in any format, whatever its slots have. With another the slot that the mark names stands
-- for them, in its own format.
abbrev pub StandsBy : (mark : ℕ) → Format → Image → List (List ℕ) → Type 0
StandsBy zero format image batches = batches ≡ []
StandsBy (suc turn) format image batches = Slot format (image (slot_of (suc turn))) batches

-- An image stands for these batches of a format.
abbrev pub Stands : Format → Image → List (List ℕ) → Type 0
Stands format image batches = StandsBy (length (image Mark)) format image batches

-- What an image stood for, the next one stands for: in the format in which a folder is created, and, where its mark is not empty, in any
-- format.
pub record StandsAsBefore (created : Format) (old new : Image) : Type 0 where
  pub still : (batches : List (List ℕ)) → Stands created old batches → Stands created new batches
  pub own : 0 < length (old Mark) → (format : Format) (batches : List (List ℕ)) → Stands format old batches → Stands format new batches

-- What a new slot beside the one that stands makes of the folder.
use Rattle.std.specs.Prelude.{◌≡◌, ◌⊎◌, ℕ, List, [], ◌∷◌, ◌++◌, length, drop}
use Rattle.ziti_outside.specs.declared.desk.Part.TheVariants.{Mark}
use Rattle.ziti_outside.specs.Images.{Image}
use Rattle.ctrl_model.specs.declared.formats.Format.{Format}
use Rattle.journal_core.specs.Slots.{Slot}
use Rattle.slot_files.specs.declared.standing.Standing.{Standing}
use Rattle.slot_files.specs.FolderImage.{Stands}
use Rattle.slot_files.specs.SwitchedSlots.{other_slot}

-- The bytes are a slot of a format.
pub record IsSlot (format : Format) (bytes : List ℕ) : Type 0 where
  pub batches : List (List ℕ)
  pub slot : Slot format bytes batches

-- An image stands for what the slot that stood has, or for what the new slot has.
pub record StandsByOne (stood new : List ℕ) (image : Image) : Type 0 where
  pub either : (f g : Format) (before after : List (List ℕ)) → Slot f stood before → Slot g new after → Stands f image before ⊎ Stands g image after

-- The new slot was written over the front of the other one, the mark has a byte more, and the slot that stood is empty.
pub record IsMoved (standing : Standing) (slot : List ℕ) (old new : Image) : Type 0 where
  pub other : new (other_slot standing.mark) ≡ slot ++ drop (length slot) (old (other_slot standing.mark))
  pub mark : new Mark ≡ old Mark ++ 0 ∷ []
  pub cut : new standing.part ≡ []

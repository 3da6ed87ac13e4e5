-- The other slot of a folder, and what it takes to let it stand (docs/PROMISES.md, "The slots of the folder").
use Rattle.std.specs.Prelude.{◌≡◌, ◌⊎◌, ℕ, ◌+◌, ◌≤◌, Bool, ⊤, IsTrue, List, length}
use Rattle.ziti_outside.specs.declared.desk.Part.{Part}
use Rattle.ziti_outside.specs.declared.desk.Part.TheVariants.{Mark}
use Rattle.ziti_outside.specs.Images.{Image, After, IsStable}
use Rattle.ziti_outside.specs.Moments.{Remembers, Leaves}
use Rattle.ziti_outside.specs.Untouched.{OnlyDisk}
use Rattle.ziti_outside.specs.Views.{Seen, Stopped}
use Rattle.journal_core.specs.Room.{HoldsRoom}
use Rattle.ctrl_model.specs.declared.formats.Format.{Format}
use Rattle.journal_core.specs.Slots.{Slot}
use Rattle.slot_files.specs.declared.faults.SlotFault.{SlotFault}
use Rattle.slot_files.specs.declared.faults.SlotFault.TheVariants.{Damaged, MarkFull}
use Rattle.slot_files.specs.declared.standing.Standing.{Standing}
use Rattle.slot_files.specs.FolderImage.{slot_of, Stands}

-- The slot that a mark of one byte more names.
abbrev pub other_slot : ℕ → Part
other_slot mark = slot_of (mark + 1)

-- The mark has so many bytes, the other slot is a complete one of a format, and nothing is pending in either.
pub record IsReady (mark : ℕ) (format : Format) (reads : Image) (images : Image → Type 0) : Type 0 where
  pub long : length (reads Mark) ≡ mark
  pub stable_mark : IsStable Mark reads images
  pub batches : List (List ℕ)
  pub slot : Slot format (reads (other_slot mark)) batches
  pub stable : IsStable (other_slot mark) reads images

-- The other slot stands: the mark has one byte more and names it.
pub record IsSwitched (old new : Standing) : Type 0 where
  pub mark : new.mark ≡ old.mark + 1
  pub part : new.part ≡ other_slot old.mark

-- An image stands for what an earlier one stood for, or for what the other slot stands for.
pub record StandsByEither (mark : ℕ) (reads : Image) (old new : Image) : Type 0 where
  pub either : (stood other : Format) (before after : List (List ℕ)) → Stands stood old before → Slot other (reads (other_slot mark)) after
      → Stands stood new before ⊎ Stands other new after

-- The other slot was let stand, and nothing else was done, whatever came of it. At every moment a stop leaves an image that stands for what
-- an earlier one stood for, or for what the other slot does; no reply byte is taken, and no slot grew, neither as the folder reads nor in what
-- a stop leaves.
pub record OnlySwitches {D : Type 0} (tells : Bool) (seen : D → Seen) (stopped : D → Stopped) (mark : ℕ) (old new : D) : Type 0 where
  pub others : OnlyDisk seen old new
  pub quiet : Leaves seen stopped old new (λ image. ⊤)
  pub stops : IsTrue tells → Leaves seen stopped old new (After (StandsByEither mark (seen old).reads) (stopped old).images)
  pub remembers : Remembers (stopped old) (stopped new)
  pub room : HoldsRoom tells 0 seen stopped old new

-- Why the other slot was not let stand. That the mark is full comes exactly where it has as many bytes as it may have, and then
-- nothing was done; where it has fewer, the disk failed.
pub record SwitchFails {D : Type 0} (mark most : ℕ) (old new : D) (fault : SlotFault) : Type 0 where
  pub full : most ≤ mark → fault ≡ MarkFull
  pub full_alone : fault ≡ MarkFull → (most ≤ mark) × (new ≡ old)
  pub undamaged : (part : Part) (at : ℕ) → fault ≡ Damaged part at → ⊥

-- What is found in a folder, and what opening it makes of it (docs/PROMISES.md, "The slots of the folder").
use Rattle.std.specs.Prelude.{◌≡◌, ℕ, zero, suc, ◌<◌, Bool, ⊤, IsTrue, [], ◌∷◌, ◌++◌, length, drop, None, Some}
use Rattle.std.specs.declared.option.Option.{Option}
use Rattle.ziti_outside.specs.declared.desk.Part.TheVariants.{Zero, One, Mark}
use Rattle.ziti_outside.specs.Told.{IsFront}
use Rattle.ziti_outside.specs.Images.{Image, After, IsStable}
use Rattle.ziti_outside.specs.Moments.{Remembers, Leaves}
use Rattle.ziti_outside.specs.Untouched.{OnlyDisk}
use Rattle.ziti_outside.specs.Views.{Seen, Stopped}
use Rattle.journal_core.specs.Room.{empty_size, HoldsRoom}
use Rattle.ctrl_model.specs.declared.formats.Format.{Format}
use Rattle.journal_core.specs.Slots.{header, slot_bytes}
use Rattle.slot_files.specs.declared.standing.Standing.{Standing}
use Rattle.slot_files.specs.FolderImage.{StandsAsBefore, slot_of}

-- A mark that is not empty, and the slot that it names.
pub record IsNamed (standing : Standing) : Type 0 where
  pub some : 0 < standing.mark
  pub part : standing.part ≡ slot_of standing.mark

-- So many bytes has the mark of the folder, and the slot that it names begins with the header of its format.
pub record IsFound (image : Image) (standing : Standing) : Type 0 where
  pub mark : length (image Mark) ≡ standing.mark
  pub begins : IsFront (header standing.format) (image standing.part)

-- What is found: nothing where the mark is empty, else the slot that it names.
abbrev pub Finds : Image → Option Standing → Type 0
Finds image None = image Mark ≡ []
Finds image (Some standing) = IsFound image standing

-- The slot was found, and nothing is pending in it and in the mark.
pub record IsOpened (standing : Standing) (reads : Image) (images : Image → Type 0) : Type 0 where
  pub found : IsFound reads standing
  pub stable_mark : IsStable Mark reads images
  pub stable_slot : IsStable standing.part reads images

-- A folder was created in a format: a slot of it that stands for nothing, and a mark of one byte. Old bytes behind that slot stay.
pub record IsCreated (format : Format) (old new : Image) : Type 0 where
  pub mark : new Mark ≡ 0 ∷ []
  pub first : new Zero ≡ slot_bytes format [] ++ drop 9 (old Zero)
  pub second : new One ≡ old One

-- Opening a folder creates it in a format where the mark is empty, and else changes nothing.
abbrev pub Opens : Format → (mark : ℕ) → Image → Image → Type 0
Opens format zero old new = IsCreated format old new
Opens format (suc turn) old new = new ≡ old

-- The folder was opened alone, or created in a format, whatever came of it. Where its mark was not empty it reads as before, and a stop at any moment leaves
-- no image that it did not leave before; the second slot always reads as before. Of any folder a stop leaves images that stand for
-- what those before stood for, and takes no reply byte. No slot grew longer than one without a record, neither as the folder reads nor in
-- what a stop leaves.
pub record OnlyOpens {D : Type 0} (format : Format) (tells : Bool) (seen : D → Seen) (stopped : D → Stopped) (old new : D) : Type 0 where
  pub kept : IsTrue tells → 0 < length ((seen old).reads Mark) → (seen new).reads ≡ (seen old).reads
  pub second : (seen new).reads One ≡ (seen old).reads One
  pub unwritten : IsTrue tells → 0 < length ((seen old).reads Mark) → Leaves seen stopped old new (stopped old).images
  pub others : OnlyDisk seen old new
  pub quiet : Leaves seen stopped old new (λ image. ⊤)
  pub stops : IsTrue tells → Leaves seen stopped old new (After (StandsAsBefore format) (stopped old).images)
  pub remembers : Remembers (stopped old) (stopped new)
  pub room : HoldsRoom tells empty_size seen stopped old new

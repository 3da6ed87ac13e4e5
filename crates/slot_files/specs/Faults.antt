-- When the calls on the slots of the folder fail (docs/PROMISES.md, "The slots of the folder").
use Rattle.std.specs.Prelude.{◌≡◌, ◌<◌, Bool, IsTrue, length, ⊤, Ok, Err}
use Rattle.std.specs.declared.result.Result.{Result}
use Rattle.ziti_outside.specs.declared.desk.Part.{Part}
use Rattle.ziti_outside.specs.declared.desk.Part.TheVariants.{Mark}
use Rattle.ziti_outside.specs.Told.{IsFront}
use Rattle.ziti_outside.specs.Images.{Image}
use Rattle.ctrl_model.specs.declared.formats.Format.{Format}
use Rattle.journal_core.specs.Slots.{header}
use Rattle.slot_files.specs.declared.faults.SlotFault.{SlotFault}
use Rattle.slot_files.specs.declared.faults.SlotFault.TheVariants.{Disk, Damaged, MarkFull}
use Rattle.slot_files.specs.FolderImage.{slot_of}

-- The failure of a call on the disk, if that is how a call ended.
abbrev pub disk_failure : {T : Type 0} → Result T SlotFault → Result ⊤ SlotFault
disk_failure (Ok x) = Ok tt
disk_failure (Err Disk) = Err Disk
disk_failure (Err (Damaged part at)) = Ok tt
disk_failure (Err MarkFull) = Ok tt

-- The mark is not empty and names this part, which begins with the header of no format.
pub record HasNoHeader (image : Image) (part : Part) : Type 0 where
  pub some : 0 < length (image Mark)
  pub named : part ≡ slot_of (length (image Mark))
  pub other : (format : Format) → IsFront (header format) (image part) → ⊥

-- Why the slot was not found: the disk failed, or it begins with the header of no format. Nothing else is told.
abbrev pub FindFails : (tells : Bool) → Image → SlotFault → Type 0
FindFails tells image Disk = ⊤
FindFails tells image (Damaged part at) = (at ≡ 0) × (IsTrue tells → HasNoHeader image part)
FindFails tells image MarkFull = ⊥

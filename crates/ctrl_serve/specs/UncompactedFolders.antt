-- A folder that a run did not compact (docs/PROMISES.md, "The headline").
use Rattle.std.specs.Prelude.{◌≡◌, ℕ, ◌<◌, Bool, false, List, length, Ok, Err}
use Rattle.std.specs.List.{list_any}
use Rattle.std.specs.declared.result.Result.{Result}
use Rattle.ziti_outside.specs.declared.desk.Part.{Part}
use Rattle.ziti_outside.specs.declared.desk.Part.TheVariants.{Mark}
use Rattle.ziti_outside.specs.Images.{Image}
use Rattle.channel_frame.specs.declared.frames.Frame.{Frame}
use Rattle.ctrl_model.specs.declared.commands.Command.{Command}
use Rattle.ctrl_model.specs.declared.kinds.Who.{Who}
use Rattle.slot_files.specs.FolderImage.{slot_of}
use Rattle.ctrl_keep.specs.KeptMachine.{Machine, is_compact}
use Rattle.ctrl_keep.specs.KeptBatches.{mark_at}
use Rattle.command_codec.specs.declared.reading.CodecFault.{CodecFault}
use Rattle.command_codec.specs.BodyMeaning.{meaning}

-- Whether what a frame spells is Compact.
abbrev pub spells_compact : Result Command CodecFault → Bool
spells_compact (Ok c) = is_compact c
spells_compact (Err e) = false

-- Whether one of these frames asks for Compact, whoever sent it.
abbrev pub ask_for_compact : List (ℕ × (Who × Frame)) → Bool
ask_for_compact frames = list_any (λ x. spells_compact (meaning x.1.1.content x.1.1.body)) frames

-- From a machine to a later one of the same run no Compact was carried out: each makes the mark longer, and nothing makes it shorter.
abbrev pub CompactsNothing : (first later : Machine) → Type 0
CompactsNothing first later = mark_at later.place ≡ mark_at first.place

-- What does not stand was left: the slot that the mark does not name reads as before, and so does the mark, unless it was empty, as that
-- of a folder which was created only then.
pub record LeavesOtherSlot (before now : Image) : Type 0 where
  pub slot : (part : Part) → (part ≡ Mark → ⊥) → (part ≡ slot_of (length (before Mark)) → ⊥) → now part ≡ before part
  pub mark : 0 < length (before Mark) → now Mark ≡ before Mark

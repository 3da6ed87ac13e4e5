-- What a call on a desk leaves alone: one record for each of the three kinds of call, in which callers repeat it
-- (docs/PROMISES.md, "The outside").
use Rattle.std.specs.Prelude.{◌≡◌}
use Rattle.ziti_outside.specs.Images.{Image}
use Rattle.ziti_outside.specs.Moments.{Remembers, Leaves}
use Rattle.ziti_outside.specs.Views.{Seen, Stopped}

-- Replies alone were said: the notes and the folder are as they were, and no fault of theirs was counted. A stop leaves no
-- image that it did not leave before.
pub record OnlySays {D : Type 0} (seen : D → Seen) (stopped : D → Stopped) (old new : D) : Type 0 where
  pub notes : (seen new).noted ≡ (seen old).noted
  pub failed_notes : (seen new).note_faults ≡ (seen old).note_faults
  pub parts : (seen new).reads ≡ (seen old).reads
  pub found : (image : Image) → (stopped new).images image → (stopped old).images image
  pub failed_calls : (seen new).disk_faults ≡ (seen old).disk_faults

-- Notes alone were written: the replies and the folder are as they were, and no fault of theirs was counted. A stop leaves no
-- image that it did not leave before.
pub record OnlyNotes {D : Type 0} (seen : D → Seen) (stopped : D → Stopped) (old new : D) : Type 0 where
  pub replies : (seen new).said ≡ (seen old).said
  pub failed_says : (seen new).say_faults ≡ (seen old).say_faults
  pub parts : (seen new).reads ≡ (seen old).reads
  pub found : (image : Image) → (stopped new).images image → (stopped old).images image
  pub failed_calls : (seen new).disk_faults ≡ (seen old).disk_faults

-- The folder alone was read or changed: the replies and the notes are as they were, and no fault of theirs was counted.
pub record OnlyDisk {D : Type 0} (seen : D → Seen) (old new : D) : Type 0 where
  pub replies : (seen new).said ≡ (seen old).said
  pub notes : (seen new).noted ≡ (seen old).noted
  pub failed_says : (seen new).say_faults ≡ (seen old).say_faults
  pub failed_notes : (seen new).note_faults ≡ (seen old).note_faults

-- The folder was read alone: it reads as before, and a stop at any moment leaves no image that it did not leave before.
pub record OnlyReads {D : Type 0} (seen : D → Seen) (stopped : D → Stopped) (old new : D) : Type 0 where
  pub parts : (seen new).reads ≡ (seen old).reads
  pub others : OnlyDisk seen old new
  pub stops : Leaves seen stopped old new (stopped old).images
  pub remembers : Remembers (stopped old) (stopped new)

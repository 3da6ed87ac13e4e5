-- A desk on which replies were said and notes written, and whose folder was left alone (docs/PROMISES.md, "The headline").
use Rattle.std.specs.Prelude.{◌≡◌, false}
use Rattle.ziti_outside.specs.Images.{Image}
use Rattle.ziti_outside.specs.Moments.{Elapses}
use Rattle.ziti_outside.specs.Views.{Seen, Stopped}
use Rattle.serve_loop.specs.Answerers.{Serving}

-- A folder was left alone: every part reads as before, and a stop leaves no image that it did not leave before, at any moment and at the
-- end.
pub record IsLeftAlone {D : Type 0} (seen : D → Seen) (stopped : D → Stopped) (desk desk_now : D) : Type 0 where
  pub parts : (seen desk_now).reads ≡ (seen desk).reads
  pub found : (image : Image) → (stopped desk_now).images image → (stopped desk).images image
  pub stops : Elapses (stopped desk) (stopped desk_now) (λ image taken. (stopped desk).images image)

-- Replies were said and notes were written, and nothing else was done on a desk: the folder was left alone, and no fault of its calls was
-- counted.
pub record OnlySaysAndNotes {D : Type 0} (seen : D → Seen) (stopped : D → Stopped) (old new : D) : Type 0 where
  pub folder : IsLeftAlone seen stopped old new
  pub failed_calls : (seen new).disk_faults ≡ (seen old).disk_faults

-- What has no folder says replies and writes notes, and does nothing else on a desk.
abbrev pub SpeaksAlone : {B D : Type 0} → (seen : D → Seen) (stopped : D → Stopped) (desk later : D) → Serving B → Type 0
SpeaksAlone seen stopped desk later c = c.folder ≡ false → OnlySaysAndNotes seen stopped desk later

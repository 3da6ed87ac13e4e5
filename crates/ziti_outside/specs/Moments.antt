-- What a stop may leave at the moments of a call: pairs of an image of the folder and the reply bytes that were taken
-- (docs/PROMISES.md, "The outside").
use Rattle.std.specs.Prelude.{◌≡◌, ◌⊎◌, ℕ, ◌≤◌, List, Some}
use Rattle.std.specs.declared.option.Option.{Option}
use Rattle.ziti_outside.specs.Told.{Took, AreTaken, IsFront}
use Rattle.ziti_outside.specs.Images.{Image}
use Rattle.ziti_outside.specs.Views.{Seen, Stopped}

-- A stop that finds one of these images, and just the reply bytes that were taken.
pub record Now (images : Image → Type 0) (said : Option (List ℕ)) (image : Image) (taken : List ℕ) : Type 0 where
  pub found : images image
  pub replies : AreTaken said taken

-- A stop within a say, at its start and at its end too: some front of the bytes was taken.
pub record Saying (images : Image → Type 0) (said : Option (List ℕ)) (bytes : List ℕ) (image : Image) (taken : List ℕ) : Type 0 where
  pub found : images image
  pub front : List ℕ
  pub is_front : IsFront front bytes
  pub replies : Took said (Some taken) front

-- Time went on, and each pair of a moment since an earlier time is one of the pairs since then before, or one of these.
pub record Elapses (before now : Stopped) (pairs : Image → List ℕ → Type 0) : Type 0 where
  pub later : before.moment ≤ now.moment
  pub nothing_else : (time : ℕ) (image : Image) (taken : List ℕ) → time ≤ before.moment → now.since time image taken → before.since time image taken ⊎ pairs image taken

-- What a stop might have left at an earlier moment is not lost.
pub record Remembers (before now : Stopped) : Type 0 where
  pub still : (time : ℕ) (image : Image) (taken : List ℕ) → time ≤ before.moment → before.since time image taken → now.since time image taken

-- From the old desk to the new one no reply byte is taken, and a stop at any moment between leaves one of these images.
pub record Leaves {D : Type 0} (seen : D → Seen) (stopped : D → Stopped) (old new : D) (images : Image → Type 0) : Type 0 where
  pub time : Elapses (stopped old) (stopped new) (Now images (seen old).said)
  pub found : (image : Image) → (stopped new).images image → images image
  pub quiet : (seen new).said ≡ (seen old).said

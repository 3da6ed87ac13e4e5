-- What a stop may leave of a folder alone at the moments of a call on it (docs/PROMISES.md, "The desks").
use Rattle.std.specs.Prelude.{◌⊎◌, ℕ, ◌≤◌}
use Rattle.ziti_outside.specs.Images.{Image}

-- From the old drive to the new one a stop at any moment between finds one of these images, and what a stop might have found at an
-- earlier moment is not lost.
pub record Finds {D : Type 0} (moment : D → ℕ) (since : D → ℕ → Image → Type 0) (may_leave : D → Image → Type 0) (old new : D) (images : Image → Type 0) : Type 0 where
  pub later : moment old ≤ moment new
  pub nothing_else : (time : ℕ) (image : Image) → time ≤ moment old → since new time image → since old time image ⊎ images image
  pub found : (image : Image) → may_leave new image → images image
  pub still : (time : ℕ) (image : Image) → time ≤ moment old → since old time image → since new time image

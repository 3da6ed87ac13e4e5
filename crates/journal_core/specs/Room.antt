-- How long the slots of a folder may become (docs/PROMISES.md, "One slot").
use Rattle.std.specs.Prelude.{ℕ, ◌≤◌, max, Bool, IsTrue, List, length}
use Rattle.ziti_outside.specs.declared.desk.Part.TheVariants.{Zero, One}
use Rattle.ziti_outside.specs.Images.{Image, After}
use Rattle.ziti_outside.specs.Views.{Seen, Stopped}

-- How many bytes a slot has without a record.
abbrev pub empty_size : ℕ
empty_size = 9

-- Each slot has at most so many bytes.
pub record IsWithin (most : ℕ) (image : Image) : Type 0 where
  pub zero : length (image Zero) ≤ most
  pub one : length (image One) ≤ most

-- The new bytes are at most so many, or no more than the old ones.
abbrev pub GrowsTo : (most : ℕ) → List ℕ → List ℕ → Type 0
GrowsTo most old new = length new ≤ max (length old) most

-- Neither slot has more than so many bytes now, unless it had more before; then it has no more than it had.
pub record KeepsRoom (most : ℕ) (old new : Image) : Type 0 where
  pub zero : GrowsTo most (old Zero) (new Zero)
  pub one : GrowsTo most (old One) (new One)

-- A call held the slots of a folder within a bound, whatever came of it: they kept room as the folder reads, where that is told; and what
-- a stop may leave now comes from what one might have left before, with slots that kept room.
pub record HoldsRoom {D : Type 0} (tells : Bool) (most : ℕ) (seen : D → Seen) (stopped : D → Stopped) (old new : D) : Type 0 where
  pub reads : IsTrue tells → KeepsRoom most (seen old).reads (seen new).reads
  pub found : (image : Image) → (stopped new).images image → After (KeepsRoom most) (stopped old).images image

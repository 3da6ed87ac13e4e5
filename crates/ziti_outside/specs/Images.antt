-- The folder of three parts: how its bytes read, what a call does to them, and what a stop within a call may leave
-- (docs/PROMISES.md, "The outside").
use Rattle.std.specs.Prelude.{◌≡◌, ℕ, ◌+◌, ◌≤◌, min, max, List, ◌++◌, length, take, drop}
use Rattle.ziti_outside.specs.declared.desk.Part.{Part}
use Rattle.ziti_outside.specs.Told.{IsFront}

-- The bytes of each part.
abbrev pub Image : Type 0
Image = Part → List ℕ

-- The new bytes are the old ones with these at this place, written over what is there and past the end.
abbrev pub Holds : ℕ → List ℕ → List ℕ → List ℕ → Type 0
Holds at bytes old new = new ≡ take at old ++ (bytes ++ drop (at + length bytes) old)

-- These bytes stand at this place.
abbrev pub StandAt : ℕ → List ℕ → List ℕ → Type 0
StandAt at bytes whole = IsFront bytes (drop at whole)

-- A write of so many bytes at a place that a stop cut short: any bytes in the range and past the old end, the same elsewhere,
-- and a length between the old and the new one.
pub record Torn (at count : ℕ) (old new : List ℕ) : Type 0 where
  pub before : IsFront (take at old) new
  pub after : drop (at + count) new ≡ drop (at + count) old
  pub no_shorter : length old ≤ length new
  pub no_longer : length new ≤ max (length old) (at + count)

-- A cut to a length that a stop cut short: the bytes that stay are those of the old image, and their length lies between the
-- shorter of that length and the old image's, and the old image's. An old image may be shorter than the part reads, where
-- a write past its end is pending; then nothing of it is cut off.
pub record CutShort (len : ℕ) (old new : List ℕ) : Type 0 where
  pub no_shorter : min len (length old) ≤ length new
  pub front : IsFront new old

-- Every other part is the same.
pub record Else (part : Part) (old new : Image) : Type 0 where
  pub same : (other : Part) → (other ≡ part → ⊥) → new other ≡ old other

-- One part made a step, and every other part is the same.
pub record OnPart (part : Part) (step : List ℕ → List ℕ → Type 0) (old new : Image) : Type 0 where
  pub here : step (old part) (new part)
  pub others : Else part old new

-- An image that comes by a step from one of these images.
pub record After (step : Image → Image → Type 0) (images : Image → Type 0) (image : Image) : Type 0 where
  pub from : Image
  pub was : images from
  pub by : step from image

-- Nothing is pending in a part: it has in each of these images the bytes that it reads.
pub record IsStable (part : Part) (reads : Image) (images : Image → Type 0) : Type 0 where
  pub each : (image : Image) → images image → image part ≡ reads part

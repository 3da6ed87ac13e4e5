-- The stages of a desk over a drive: the drive and the outlet of the replies as they were at the start of each call that was made, and
-- what a stop at any moment from one of them on may leave (docs/PROMISES.md, "The desks").
use Rattle.std.specs.Prelude.{◌⊎◌, ℕ, zero, suc, List, [], ◌∷◌, length, ⊤, None, Some}
use Rattle.std.specs.declared.option.Option.{Option}
use Rattle.ziti_outside.specs.Told.{IsFront}
use Rattle.ziti_outside.specs.Images.{Image}
use Rattle.ziti_outside.specs.Views.{Stopped}

-- These replies were taken between two times: all that were taken by the first, and no more than those by the second. Of replies that are
-- not told nothing is said.
abbrev pub IsBetween : Option (List ℕ) → Option (List ℕ) → List ℕ → Type 0
IsBetween None now taken = ⊤
IsBetween (Some first) None taken = ⊥
IsBetween (Some first) (Some second) taken = IsFront first taken × IsFront taken second

-- A stop within a call: an image that the drive tells of the moments from the start of the call on, and replies that were taken between
-- its start and its end.
pub record StopsWithin {F O : Type 0} (moment : F → ℕ) (since : F → ℕ → Image → Type 0) (contents : O → Option (List ℕ)) (before now : F × O) (image : Image) (taken : List ℕ) : Type 0 where
  pub found : since now.0 (moment before.0) image
  pub replies : IsBetween (contents before.1) (contents now.1) taken

-- The stage that follows: the first of the later ones, or the one now.
abbrev pub next_of : {S : Type 0} → List S → S → S
next_of [] now = now
next_of (stage ∷ stages) now = stage

-- The pairs of an image and the replies that a stop may leave from the given number of calls on: within a call, or now.
abbrev pub PairsFrom : {S : Type 0} → (S → S → Image → List ℕ → Type 0) → (S → Image → List ℕ → Type 0) → List S → S → ℕ → Image → List ℕ → Type 0
PairsFrom within last [] now time image taken = last now image taken
PairsFrom within last (stage ∷ stages) now zero image taken = within stage (next_of stages now) image taken ⊎ PairsFrom within last stages now zero image taken
PairsFrom within last (stage ∷ stages) now (suc time) image taken = PairsFrom within last stages now time image taken

-- What a stop may leave after these stages: its moment is their number, its images are those now, and its pairs those from a number of
-- calls on.
abbrev pub staged : {S : Type 0} → (S → S → Image → List ℕ → Type 0) → (S → Image → List ℕ → Type 0) → (S → Image → Type 0) → List S → S → Stopped
staged within last images stages now = record { moment = length stages; images = images now; since = PairsFrom within last stages now }

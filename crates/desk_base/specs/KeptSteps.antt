-- How a stop of a desk over memory that keeps nothing, or all, comes about call by call (docs/PROMISES.md, "The desks").
use Rattle.std.specs.Prelude.{◌≡◌, ℕ, List, take}
use Rattle.ziti_outside.specs.declared.desk.Part.{Part}
use Rattle.ziti_outside.specs.Images.{Image}
use Rattle.desk_base.specs.declared.stopping.Keeping.{Keeping}
use Rattle.desk_base.specs.declared.stopping.Keeping.TheVariants as choice
use Rattle.desk_base.specs.MemEvents.{Event, Saying, Writing, Cutting, Syncing, with_part, written_over, said_by}
use Rattle.desk_base.specs.StopPoints.{synced_parts, whole_parts, KeepsNothing, KeepsAll}

-- What a call does to the parts that a stop finds, where nothing that is pending is kept: a sync alone brings a part to what it reads.
abbrev pub synced_by : Event → Image → Image → Image
synced_by (Saying bytes) reads old = old
synced_by (Writing part at bytes done) reads old = old
synced_by (Cutting part len done) reads old = old
synced_by (Syncing part) reads old = with_part part (reads part) old

-- And where all is kept: it writes and cuts whole, whether it failed or not.
abbrev pub whole_by : Event → Image → Image → Image
whole_by (Saying bytes) reads old = old
whole_by (Writing part at bytes done) reads old = with_part part (written_over at bytes (old part)) old
whole_by (Cutting part len done) reads old = with_part part (take len (old part)) old
whole_by (Syncing part) reads old = with_part part (reads part) old

-- How the parts that a stop finds went on behind a call, where nothing is kept, and where all is.
pub record KeepsBy (keeping : Keeping) (event : Event) (reads old new : Image) : Type 0 where
  pub nothing : keeping ≡ choice.Nothing → new ≡ synced_by event reads old
  pub all : keeping ≡ choice.All → new ≡ whole_by event reads old

-- What keeps nothing goes on so, and what keeps all.
pub record StaysChosen (old new : Keeping) : Type 0 where
  pub nothing : old ≡ choice.Nothing → new ≡ choice.Nothing
  pub all : old ≡ choice.All → new ≡ choice.All

-- The parts that a stop found behind some calls, where nothing is kept, and where all is.
pub record ChosenAt (first : Image) (done : List Event) (keeping : Keeping) (image : Image) : Type 0 where
  pub nothing : keeping ≡ choice.Nothing → (part : Part) → image part ≡ synced_parts first done part
  pub all : keeping ≡ choice.All → (part : Part) → image part ≡ whole_parts first done part

-- What was said behind the calls before a stop and within the one that it fell in, where nothing is kept, and where all is.
pub record SaysChosen (keeping : Keeping) (event : Event) (old new : List ℕ) : Type 0 where
  pub nothing : keeping ≡ choice.Nothing → new ≡ old
  pub all : keeping ≡ choice.All → new ≡ said_by event old

-- The pair that a stop at a moment of a desk leaves, where nothing is kept, and where all is.
pub record KeepsChosen (keeping : Keeping) (first : Image) (events : List Event) (moment : ℕ) (image : Image) (taken : List ℕ) : Type 0 where
  pub nothing : keeping ≡ choice.Nothing → KeepsNothing first events moment image taken
  pub all : keeping ≡ choice.All → KeepsAll first events moment image taken

-- How much is kept of some calls by a stop that was found behind them: the parts that it found, and what is kept goes on so.
pub record KeptSoFar (first : Image) (done : List Event) (keeping now : Keeping) (image : Image) : Type 0 where
  pub chosen : ChosenAt first done keeping image
  pub stays : StaysChosen keeping now

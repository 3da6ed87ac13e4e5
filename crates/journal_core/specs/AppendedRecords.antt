-- What appending a record does to the folder, beside the record itself (docs/PROMISES.md, "One slot").
use Rattle.std.specs.Prelude.{ℕ, Bool, ⊤, IsTrue, List}
use Rattle.ziti_outside.specs.declared.desk.Part.{Part}
use Rattle.ziti_outside.specs.Images.{After, Else, OnPart}
use Rattle.ziti_outside.specs.Moments.{Remembers, Leaves}
use Rattle.ziti_outside.specs.Untouched.{OnlyDisk}
use Rattle.ziti_outside.specs.Views.{Seen, Stopped}
use Rattle.journal_core.specs.Room.{HoldsRoom}

-- A part made a step, and nothing else was done, whatever came of it. At every moment a stop leaves a part that made the step; the other
-- parts are as they were, and no reply byte is taken. No slot grew past so many bytes, neither as the folder reads nor in what a stop leaves.
pub record OnlyAppends {D : Type 0} (tells : Bool) (seen : D → Seen) (stopped : D → Stopped) (part : Part) (step : List ℕ → List ℕ → Type 0) (most : ℕ) (old new : D) : Type 0 where
  pub elsewhere : Else part (seen old).reads (seen new).reads
  pub others : OnlyDisk seen old new
  pub quiet : Leaves seen stopped old new (λ image. ⊤)
  pub stops : IsTrue tells → Leaves seen stopped old new (After (OnPart part step) (stopped old).images)
  pub remembers : Remembers (stopped old) (stopped new)
  pub room : HoldsRoom tells most seen stopped old new

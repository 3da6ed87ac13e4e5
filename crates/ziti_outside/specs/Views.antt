-- A desk in two records: what is seen of it, and what a stop may leave of it (docs/PROMISES.md, "The outside").
use Rattle.std.specs.Prelude.{ℕ, Bool, List}
use Rattle.std.specs.declared.option.Option.{Option}
use Rattle.ziti_outside.specs.Images.{Image}

-- What is seen of a desk: the reply bytes and the notes that were taken so far, where the desk tells them; for each of the three kinds of
-- call the number of its faults; and the bytes that each part of the folder reads.
pub record Seen : Type 0 where
  pub said : Option (List ℕ)
  pub noted : Option (List ℕ)
  pub say_faults : ℕ
  pub note_faults : ℕ
  pub disk_faults : ℕ
  pub reads : Image

-- What a stop may leave of a desk: its moment on a clock that does not fall; the images of the folder that a stop at this moment finds; and,
-- over all moments from an earlier one on, the pairs of such an image and of the reply bytes taken by then.
pub record Stopped : Type 1 where
  pub moment : ℕ
  pub images : Image → Type 0
  pub since : ℕ → Image → List ℕ → Type 0

-- What contracts see of the outside of a run: of its source the bytes that are left, where it tells them, and the count of its faults; and
-- of its desk whether it tells its folder, and the two records.
pub record Outside (S D : Type 0) : Type 1 where
  pub left : S → Option (List ℕ)
  pub faults : S → ℕ
  pub tells : Bool
  pub seen : D → Seen
  pub stopped : D → Stopped

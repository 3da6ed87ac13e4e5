-- Columns of steps that are swept at once. No public contract cites this file.
use Rattle.std.specs.Prelude.{ℕ, ◌<◌, List, length}
use Rattle.bit_lanes.specs.Lanes.{Sweeps}

-- Three columns with a place for each of some steps: the potential of its start, its cost, and the potential of its end.
pub record ColumnsSeen : Type 0 where
  pub starts : List ℕ
  pub costs : List ℕ
  pub ends : List ℕ

-- How many steps are swept at once.
abbrev pub swept_steps : ℕ
swept_steps = 64

-- There is room for a step more.
abbrev pub HasRoom : ColumnsSeen → Type 0
HasRoom c = length c.starts < swept_steps

-- At each place the step does not improve the potential of its start.
abbrev pub Hold : ColumnsSeen → Type 0
Hold c = Sweeps c.starts c.costs c.ends

-- Small records and rows for worked examples.
use Rattle.std.specs.Prelude.{ℕ, true, List, codes}
use Rattle.ctrl_model.specs.State.{Entity, Link}
use Rattle.row_codec.specs.declared.rows.Row.{Row}
use Rattle.row_codec.specs.declared.rows.Row.TheVariants as row

-- Ann, with some attributes.
abbrev pub ann : List (List ℕ) → Entity
ann attributes = record { name = codes "ann"; attributes = attributes }

-- The row of ann, under the number 1.
abbrev pub row_of_ann : List (List ℕ) → Row
row_of_ann attributes = row.Identity (record { 0 = 1 }) (codes "ann") attributes

-- A link from one router to another, of the least cost, which reports no latency and is up.
abbrev pub link_between : ℕ → ℕ → Link
link_between a b = record { name = codes "l1"; a = a; b = b; cost = 1; latency_a = 0; latency_b = 0; up = true }

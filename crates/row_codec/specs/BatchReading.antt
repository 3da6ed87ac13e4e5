-- Batches as they are read, operation by operation (docs/FORMATS.md, "Batches").
use Rattle.std.specs.Prelude.{ℕ, Bool, true, cond, ◌==◌, List, None, Some}
use Rattle.std.specs.declared.option.Option.{Option}
use Rattle.std.specs.Option.{option_map, option_and_then}
use Rattle.std.specs.Ordering.{is_lt}
use Rattle.row_codec.specs.declared.changes.Op.{Op}
use Rattle.row_codec.specs.declared.changes.Op.TheVariants.{Put, Delete}
use Rattle.row_codec.specs.FieldReading.{Front, front_byte, front_part, front_long, front_text}
use Rattle.row_codec.specs.Batches.{bytes_cmp, entry_of, Spells}

-- A put, behind its mark.
abbrev pub front_put : List ℕ → Front Op
front_put bytes =
    option_and_then (λ k. option_and_then (λ n. option_map (λ v. (Put k.0 v.0, v.1)) (front_part n.0 n.1)) (front_long k.1)) (front_text bytes)

-- A deletion, behind its mark.
abbrev pub front_delete : List ℕ → Front Op
front_delete bytes = option_map (λ k. (Delete k.0, k.1)) (front_text bytes)

-- An operation: its mark is 1 or 2.
abbrev pub front_op : List ℕ → Front Op
front_op bytes = option_and_then (λ m. cond (m.0 == 1) (front_put m.1) (cond (m.0 == 2) (front_delete m.1) None)) (front_byte bytes)

-- Whether a key comes after the last one, if there is one.
abbrev pub comes_after : Option (List ℕ) → List ℕ → Bool
comes_after None key = true
comes_after (Some last) key = is_lt (bytes_cmp last key)

-- The operation at the front of the bytes behind a last key, where its key comes after that one.
abbrev pub next_op : Option (List ℕ) → List ℕ → Front Op
next_op last bytes = option_and_then (λ x. cond (comes_after last (entry_of x.0).0) (Some x) None) (front_op bytes)

-- Some bytes spell a batch.
pub record IsSpelled (bytes : List ℕ) : Type 0 where
  pub ops : List Op
  pub spells : Spells bytes ops

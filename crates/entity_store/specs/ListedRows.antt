-- How the names and the rows of a kind's entities are kept beside the tables. Only private functions and proofs of this crate cite this
-- file.
use Rattle.std.specs.Prelude.{ℕ, ◌-◌, List, [], ◌∷◌, ◌++◌, length, take, replicate, slice_set, remove}
use Rattle.attr_pool.specs.AttributeRows.{row_words}

-- The names of some entities, and the words of their rows, in one order.
pub record Listed : Type 0 where
  pub names : List (List ℕ)
  pub rows : List (List ℕ)

-- None.
abbrev pub no_entries : Listed
no_entries = record { names = []; rows = [] }

-- With one more name, and a row without a bit.
abbrev pub with_entry : List ℕ → Listed → Listed
with_entry name l = record { names = l.names ++ name ∷ []; rows = l.rows ++ replicate row_words 0 ∷ [] }

-- Without the last name and row.
abbrev pub without_last : Listed → Listed
without_last l = record { names = take (length l.names - 1) l.names; rows = take (length l.rows - 1) l.rows }

-- With another row at a place.
abbrev pub with_words : ℕ → List ℕ → Listed → Listed
with_words place words l = record l { rows = slice_set l.rows place words }

-- Without the name and the row at a place.
abbrev pub without_entry : ℕ → Listed → Listed
without_entry place l = record { names = remove l.names place; rows = remove l.rows place }

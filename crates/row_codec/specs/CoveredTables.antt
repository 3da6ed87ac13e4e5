-- Changes that cover some tables of two states in a format: the keys that they name are all at which the rows may differ there
-- (docs/PROMISES.md, "Rows and batches").
use Rattle.std.specs.Prelude.{◌≡◌, ◌≤◌, ◌<◌, ℕ, Bool, true, false, List, map}
use Rattle.std.specs.List.{AllByRecursion, list_any, list_all}
use Rattle.std.specs.Ordering.{is_eq}
use Rattle.ctrl_model.specs.declared.formats.Format.{Format}
use Rattle.ctrl_model.specs.State.{State}
use Rattle.row_codec.specs.declared.changes.Change.{Change}
use Rattle.row_codec.specs.RowKeys.{Key, key_cmp, key_bytes, is_key}
use Rattle.row_codec.specs.RowDifference.{Rises}
use Rattle.row_codec.specs.StateRows.{row_at}

-- The change at a key: its row in the one state, and its row in the other.
abbrev pub change_at : Format → State → State → Key → Change
change_at f s t key = record { key = key_bytes key; before = row_at f s key; after = row_at f t key }

-- Whether a key is among some.
abbrev pub has_key : List Key → Key → Bool
has_key keys q = list_any (λ k. is_eq (key_cmp k q)) keys

-- A key lies in the tables from one number on and below another.
abbrev pub LiesIn : ℕ → ℕ → Key → Type 0
LiesIn low high key = (low ≤ key.0) × (key.0 < high)

-- The changes cover the tables from one number on and below another: they are those at some rising keys of these tables, and at
-- every other key of them the two states have the same row. No table has a number of 18 or above.
pub record Covers (f : Format) (low high : ℕ) (s t : State) (changes : List Change) : Type 0 where
  pub keys : List Key
  pub named : changes ≡ map (change_at f s t) keys
  pub rises : Rises key_cmp (map (λ k. (k, k)) keys)
  pub fits : list_all is_key keys ≡ true
  pub within : AllByRecursion (LiesIn low high) keys
  pub others : (key : Key) → LiesIn low high key → has_key keys key ≡ false → row_at f s key ≡ row_at f t key

-- Batches: the changes of rows that are made together, and how they are spelled (docs/FORMATS.md, "Batches").
use Rattle.std.specs.Prelude.{◌≡◌, ℕ, ◌^◌, ◌<◌, ◌≤◌, List, [], ◌∷◌, ◌++◌, length, map, None, Some}
use Rattle.std.specs.declared.option.Option.{Option}
use Rattle.std.specs.List.{flat_map, AllByRecursion}
use Rattle.std.specs.declared.cmp.Ordering.{Ordering}
use Rattle.std.specs.Ordering.{nat_cmp}
use Rattle.std.specs.Cmp.Lexicographic.{slice_cmp}
use Rattle.ctrl_model.specs.declared.formats.Format.{Format}
use Rattle.ctrl_model.specs.State.{State}
use Rattle.row_codec.specs.declared.changes.Op.{Op}
use Rattle.row_codec.specs.declared.changes.Op.TheVariants.{Put, Delete}
use Rattle.row_codec.specs.declared.changes.Change.{Change}
use Rattle.row_codec.specs.RowKeys.{Key, key_cmp, key_bytes}
use Rattle.row_codec.specs.RowValues.{long}
use Rattle.row_codec.specs.StateRows.{Rows, rows_of}
use Rattle.row_codec.specs.RowDifference.{Entry, Rises, said_of, difference}

-- The order of keys as bytes: the first byte that differs decides, and the shorter one comes first where none does.
abbrev pub bytes_cmp : List ℕ → List ℕ → Ordering
bytes_cmp xs ys = slice_cmp nat_cmp xs ys

-- What an operation has at its key.
abbrev pub entry_of : Op → Entry (List ℕ)
entry_of (Put key value) = (key, Some value)
entry_of (Delete key) = (key, None)

-- What a batch has at its keys.
abbrev pub entries_of : List Op → List (Entry (List ℕ))
entries_of ops = map entry_of ops

-- The operation with these bytes as its key.
abbrev pub op_at : List ℕ → Option (List ℕ) → Op
op_at key None = Delete key
op_at key (Some value) = Put key value

-- The operations of entries under the keys of tables.
abbrev pub ops_of : List (Entry Key) → List Op
ops_of entries = map (λ e. op_at (key_bytes e.0) e.1) entries

-- Rows under the bytes of their keys.
abbrev pub spelled_rows : Rows → List (List ℕ × List ℕ)
spelled_rows rows = map (λ x. (key_bytes x.0, x.1)) rows

-- The batch that leads from the rows of one state to those of another, in a format.
abbrev pub batch_between : Format → State → State → List Op
batch_between f s t = ops_of (difference key_cmp (rows_of f s) (rows_of f t))

-- An operation, spelled: 1, the key's length as one byte, the key, the value's length as four bytes, the value; or 2, the key's
-- length and the key.
abbrev pub op_bytes : Op → List ℕ
op_bytes (Put key value) = 1 ∷ length key ∷ (key ++ (long (length value) ++ value))
op_bytes (Delete key) = 2 ∷ length key ∷ key

-- A batch, spelled: its operations in order.
abbrev pub batch_bytes : List Op → List ℕ
batch_bytes ops = flat_map op_bytes ops

-- An operation whose lengths can be spelled.
abbrev pub IsSpelledOp : Op → Type 0
IsSpelledOp (Put key value) = (length key ≤ 255) × (length value < 2 ^ 32)
IsSpelledOp (Delete key) = length key ≤ 255

-- A batch that can be spelled: its keys rise, and its lengths fit.
pub record IsBatch (ops : List Op) : Type 0 where
  pub rises : Rises bytes_cmp (entries_of ops)
  pub fits : AllByRecursion IsSpelledOp ops

-- Some bytes spell a batch.
pub record Spells (bytes : List ℕ) (ops : List Op) : Type 0 where
  pub batch : IsBatch ops
  pub spelled : bytes ≡ batch_bytes ops

-- What is said at a key, as operations: one, or none where nothing must be said.
abbrev pub ops_at : List ℕ → Option (Option (List ℕ)) → List Op
ops_at key None = []
ops_at key (Some value) = op_at key value ∷ []

-- The operations of changes: for each what must be said of its key.
abbrev pub batch_of : List Change → List Op
batch_of changes = flat_map (λ c. ops_at c.key (said_of c.before c.after)) changes

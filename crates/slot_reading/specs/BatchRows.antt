-- The rows that batches give, one after another (docs/FORMATS.md, "Batches").
use Rattle.std.specs.Prelude.{◌≡◌, ◌⊎◌, ⊤, ℕ, ◌+◌, ◌==◌, ◌&&◌, nat_lt, Bool, true, false, cond, List, [], ◌∷◌, ◌++◌, length, take, map, filter, None, Some}
use Rattle.std.specs.declared.option.Option.{Option}
use Rattle.std.specs.Int.{w64, from_le_bytes}
use Rattle.std.specs.declared.vec.Vec.{Vec}
use Rattle.std.specs.List.{AllByRecursion}
use Rattle.ctrl_model.specs.declared.formats.Format.{Format}
use Rattle.ctrl_model.specs.declared.formats.Format.TheVariants.{One, Two}
use Rattle.journal_core.specs.Slots.{slot_end}
use Rattle.row_codec.specs.declared.changes.Op.{Op}
use Rattle.row_codec.specs.declared.changes.Op.TheVariants.{Put}
use Rattle.row_codec.specs.NarrowedRows.{is_count_key}
use Rattle.row_codec.specs.RowDifference.{value_at, with_batch, IsTrueDifference}
use Rattle.row_codec.specs.Batches.{bytes_cmp, entries_of, IsSpelledOp, Spells}

-- Rows: values under their keys, both as bytes.
abbrev pub ByteRows : Type 0
ByteRows = List (List ℕ × List ℕ)

-- The rows after some operations.
abbrev pub rows_after : ByteRows → List Op → ByteRows
rows_after rows ops = with_batch bytes_cmp rows (entries_of ops)

-- A payload leads from rows to others: it spells a batch that is a true difference of the first, and the others are those after it.
pub record Leads (rows : ByteRows) (payload : List ℕ) (next : ByteRows) : Type 0 where
  pub ops : List Op
  pub spelled : Spells payload ops
  pub changes : IsTrueDifference bytes_cmp rows (entries_of ops)
  pub after : next ≡ rows_after rows ops

-- The key of the serial: the number of its table alone.
abbrev pub serial_key : List ℕ
serial_key = 17 ∷ []

-- The serial that a value tells: eight bytes, the least first, of a number above 0. Where there is no value it is 0.
abbrev pub serial_in : Option (List ℕ) → Option ℕ
serial_in None = Some 0
serial_in (Some value) = cond (length value == 8 && nat_lt 0 (from_le_bytes w64 value)) (Some (from_le_bytes w64 value)) None

-- The serial of rows, if they tell one.
abbrev pub serial_of : ByteRows → Option ℕ
serial_of rows = serial_in (value_at bytes_cmp rows serial_key)

-- A serial is told, and the next one is told and is one more.
abbrev pub IsNext : (before after : Option ℕ) → Type 0
IsNext before after = (n : ℕ) × (before ≡ Some n) × (after ≡ Some (n + 1))

-- The next rows have the next serial.
abbrev pub Raises : ByteRows → ByteRows → Type 0
Raises rows next = IsNext (serial_of rows) (serial_of next)

-- In the second format each batch raises the serial, and in the first there is none.
abbrev pub GoesBy : Format → ByteRows → ByteRows → Type 0
GoesBy One rows next = ⊤
GoesBy Two rows next = Raises rows next

-- The batch at a place of a slot of a format may lead from rows to others: the first batch of a slot, whatever serial it has, and each
-- later one that goes by the format.
abbrev pub MayLead : Format → (at : ℕ) → ByteRows → ByteRows → Type 0
MayLead format at rows next = (at ≡ slot_end []) ⊎ GoesBy format rows next

-- Payloads lead from rows to others, one after another, by a format.
abbrev pub LeadFrom : Format → ByteRows → List (List ℕ) → ByteRows → Type 0
LeadFrom format rows [] last = last ≡ rows
LeadFrom format rows (payload ∷ payloads) last = (next : ByteRows) × Leads rows payload next × GoesBy format rows next × LeadFrom format next payloads last

-- Payloads give these rows, from no rows on. The first one has any serial.
abbrev pub Give : Format → List (List ℕ) → ByteRows → Type 0
Give format [] rows = rows ≡ []
Give format (payload ∷ payloads) rows = (first : ByteRows) × Leads [] payload first × LeadFrom format first payloads rows

-- Counts that two bytes hold: the value of each is its first two bytes and two zeros.
abbrev pub AreNarrow : ByteRows → Type 0
AreNarrow rows = AllByRecursion (λ (x : List ℕ × List ℕ). is_count_key x.0 ≡ true → x.1 ≡ take 2 x.1 ++ 0 ∷ 0 ∷ []) rows

-- The entries of a map as rows.
abbrev pub rows_in : {A : Type 0} → List (Vec ℕ A × List ℕ) → ByteRows
rows_in entries = map (λ e. (e.0.items, e.1)) entries

-- Whether a key is one of a table: its first byte is the table's number.
abbrev pub is_of_table : ℕ → List ℕ → Bool
is_of_table table [] = false
is_of_table table (byte ∷ key) = byte == table

-- Rows as puts, in the order of their keys.
abbrev pub puts : ByteRows → List Op
puts rows = map (λ x. Put x.0 x.1) rows

-- Rows that can be put: no key has more than 255 bytes, and each value's length fits four bytes.
abbrev pub ArePuttable : ByteRows → Type 0
ArePuttable rows = AllByRecursion (λ x. IsSpelledOp (Put x.0 x.1)) rows

-- The rows of a table, as puts in the order of their keys.
abbrev pub puts_of : ℕ → ByteRows → List Op
puts_of table rows = puts (filter (λ x. is_of_table table x.0) rows)

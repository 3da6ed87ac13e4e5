-- The row that a change puts behind the key of the last one, and why it puts none there.
use Rattle.std.specs.Prelude.{◌≡◌, ℕ, true, false, List}
use Rattle.std.specs.declared.option.Option.{Option}
use Rattle.ctrl_model.specs.declared.formats.Format.{Format}
use Rattle.row_codec.specs.declared.rows.Row.{Row}
use Rattle.row_codec.specs.declared.changes.Op.{Op}
use Rattle.row_codec.specs.RowKeys.{key_bytes}
use Rattle.row_codec.specs.RowForm.{is_row, key_of}
use Rattle.row_codec.specs.BatchReading.{comes_after}
use Rattle.state_building.specs.declared.flaws.Flaw.{Flaw}
use Rattle.state_building.specs.declared.flaws.Flaw.TheVariants.{NoRecord, OutOfOrder}
use Rattle.row_loading.specs.LoadedRows.{put_of}

-- A change puts a row of a format that some state can have.
pub record Puts (f : Format) (op : Op) (x : Row) : Type 0 where
  pub form : is_row f x ≡ true
  pub put : op ≡ put_of f x

-- A change puts no row.
abbrev pub PutsNone : Format → Op → Type 0
PutsNone f op = (x : Row) → is_row f x ≡ true → op ≡ put_of f x → ⊥

-- A change puts a row whose key comes after the last one.
pub record PutsNext (f : Format) (last : Option (List ℕ)) (op : Op) (x : Row) : Type 0 where
  pub puts : Puts f op x
  pub comes : comes_after last (key_bytes (key_of x)) ≡ true

-- A change puts a row whose key does not come after the last one.
pub record PutsEarly (f : Format) (last : Option (List ℕ)) (op : Op) : Type 0 where
  pub row : Row
  pub puts : Puts f op row
  pub early : comes_after last (key_bytes (key_of row)) ≡ false

-- Why a change does not put the next row.
abbrev pub PutsNoNext : Format → Flaw → Option (List ℕ) → Op → Type 0
PutsNoNext f NoRecord last op = PutsNone f op
PutsNoNext f OutOfOrder last op = PutsEarly f last op
PutsNoNext f _ last op = ⊥

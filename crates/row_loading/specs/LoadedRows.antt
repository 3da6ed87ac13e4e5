-- Rows as changes that put them where none were, and changes that lead to no state (docs/FORMATS.md, "Rows of a valid state").
use Rattle.std.specs.Prelude.{◌≡◌, true, List, map}
use Rattle.std.specs.List.{list_all}
use Rattle.ctrl_model.specs.declared.formats.Format.{Format}
use Rattle.ctrl_model.specs.State.{State, start}
use Rattle.ctrl_model.specs.ValidState.{ValidState}
use Rattle.row_codec.specs.declared.rows.Row.{Row}
use Rattle.row_codec.specs.declared.changes.Op.{Op}
use Rattle.row_codec.specs.declared.changes.Op.TheVariants.{Put}
use Rattle.row_codec.specs.RowKeys.{key_cmp, key_bytes}
use Rattle.row_codec.specs.RowForm.{is_row, key_of, value_of}
use Rattle.row_codec.specs.RowDifference.{Rises}
use Rattle.row_codec.specs.StateRows.{Rows, HasRows}
use Rattle.row_codec.specs.Batches.{batch_between}

-- The change that puts a row of a format.
abbrev pub put_of : Format → Row → Op
put_of f x = Put (key_bytes (key_of x)) (value_of f x)

-- Rows as values under their keys.
abbrev pub keyed : Format → List Row → Rows
keyed f rows = map (λ x. (key_of x, value_of f x)) rows

-- Changes put rows of a format, each of which some state can have, in the order of their keys.
pub record Loads (f : Format) (ops : List Op) (rows : List Row) : Type 0 where
  pub spelled : ops ≡ map (put_of f) rows
  pub form : list_all (is_row f) rows ≡ true
  pub rises : Rises key_cmp (keyed f rows)

-- Changes that lead from the start to no valid state that has rows in a format.
abbrev pub AreOfNoState : Format → List Op → Type 0
AreOfNoState f ops = (s : State) → ValidState s → HasRows f s → ops ≡ batch_between f start s → ⊥

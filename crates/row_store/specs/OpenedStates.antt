-- The state to which an image of the folder opens, and where it is damaged if it opens to none (docs/FORMATS.md, "Damage").
use Rattle.std.specs.Prelude.{◌≡◌, ◌⊎◌, ℕ, List, length}
use Rattle.ziti_outside.specs.declared.desk.Part.{Part}
use Rattle.ziti_outside.specs.declared.desk.Part.TheVariants.{Mark}
use Rattle.ziti_outside.specs.Images.{Image}
use Rattle.ctrl_model.specs.declared.formats.Format.{Format}
use Rattle.ctrl_model.specs.State.{State}
use Rattle.ctrl_model.specs.ValidState.{ValidState}
use Rattle.journal_core.specs.Slots.{slot_end}
use Rattle.slot_files.specs.FolderImage.{slot_of, Stands}
use Rattle.row_codec.specs.StateRows.{rows_of, HasRows}
use Rattle.row_codec.specs.Batches.{spelled_rows}
use Rattle.slot_reading.specs.BatchRows.{ByteRows, Give}
use Rattle.row_store.specs.OpenedRows.{OpensTo, IsDamagedAt}
use Rattle.row_store.specs.StoredRows.{Stored}

-- The rows of a state in a format, as bytes.
abbrev pub byte_rows_of : Format → State → ByteRows
byte_rows_of format s = spelled_rows (rows_of format s)

-- An image opens to a state: the state is valid and has rows in a format, and the image opens to exactly its rows in this format, counted
-- grants among them.
pub record OpensToState (image : Image) (s : State) : Type 0 where
  pub format : Format
  pub has : HasRows format s
  pub valid : ValidState s
  pub rows : OpensTo format image (byte_rows_of format s)

-- The rows of an image are those of no valid state in their format, which is told at the closed gate of the slot that stands.
pub record HasNoState (image : Image) (part : Part) (at : ℕ) : Type 0 where
  pub named : part ≡ slot_of (length (image Mark))
  pub format : Format
  pub batches : List (List ℕ)
  pub stands : Stands format image batches
  pub rows : ByteRows
  pub give : Give format batches rows
  pub place : at ≡ slot_end batches
  pub none : (s : State) → ValidState s → HasRows format s → rows ≡ byte_rows_of format s → ⊥

-- An image opens to no state, and is damaged at a place of a part: it opens to no rows and this is the first such place, or to rows of
-- no valid state.
abbrev pub IsStateless : Image → Part → ℕ → Type 0
IsStateless image part at = IsDamagedAt image part at ⊎ HasNoState image part at

-- The rows of a store are those of no valid state in its format, which is told at the store's end.
abbrev pub IsOfNoState : Stored → Part → ℕ → Type 0
IsOfNoState stored part at =
    (part ≡ stored.part) × (at ≡ stored.end) × ((s : State) → ValidState s → HasRows stored.format s → stored.rows ≡ byte_rows_of stored.format s → ⊥)

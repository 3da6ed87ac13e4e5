-- Why changes are not those that put all rows of a valid state, and at which place: the first one that cannot come next, or the end,
-- where a count is missing (docs/FORMATS.md, "Rows of a valid state").
use Rattle.std.specs.Prelude.{◌≡◌, ◌⊎◌, ℕ, true, List, [], ◌∷◌, ◌++◌, length, Some}
use Rattle.ctrl_model.specs.declared.formats.Format.{Format}
use Rattle.ctrl_model.specs.declared.kinds.Relation.{Relation}
use Rattle.ctrl_model.specs.State.{start}
use Rattle.ctrl_model.specs.Grants.{count}
use Rattle.row_codec.specs.declared.rows.Row.{Row}
use Rattle.row_codec.specs.declared.changes.Op.{Op}
use Rattle.row_codec.specs.RowKeys.{key_cmp}
use Rattle.row_codec.specs.RowForm.{is_row}
use Rattle.row_codec.specs.RowDifference.{Rises}
use Rattle.state_building.specs.declared.flaws.Flaw.{Flaw}
use Rattle.state_building.specs.declared.flaws.Flaw.TheVariants.{NoRecord, OutOfOrder, WrongCount}
use Rattle.state_building.specs.BuiltStates.{flaw_in, built, AreFlawless, next_in, count_in}
use Rattle.row_loading.specs.LoadedRows.{put_of, keyed, Loads}

-- Why a change puts no row behind some rows: it puts none at all, or one whose key does not come after theirs.
abbrev pub PutsNoRow : Format → Flaw → List Row → Op → Type 0
PutsNoRow f NoRecord rows op = (x : Row) → is_row f x ≡ true → op ≡ put_of f x → ⊥
PutsNoRow f OutOfOrder rows op = (x : Row) × (is_row f x ≡ true) × (op ≡ put_of f x) × (Rises key_cmp (keyed f (rows ++ x ∷ [])) → ⊥)
PutsNoRow f _ rows op = ⊥

-- The change at a place is the first that puts no row.
pub record AreUnread (f : Format) (ops : List Op) (place : ℕ) (flaw : Flaw) : Type 0 where
  pub before : List Op
  pub op : Op
  pub after : List Op
  pub split : ops ≡ before ++ op ∷ after
  pub rows : List Row
  pub loads : Loads f before rows
  pub place_is : length before ≡ place
  pub reason : PutsNoRow f flaw rows op

-- The row at a place is the first that cannot come next.
pub record AreFlawed (f : Format) (ops : List Op) (place : ℕ) (flaw : Flaw) : Type 0 where
  pub rows : List Row
  pub loads : Loads f ops rows
  pub before : List Row
  pub one : Row
  pub after : List Row
  pub split : rows ≡ before ++ one ∷ after
  pub flawless : AreFlawless (next_in rows) before start
  pub place_is : length before ≡ place
  pub flaw_is : flaw_in (next_in rows) one (built before start) ≡ Some flaw

-- Each row can come next, and at the end a count has no row.
pub record LackCounts (f : Format) (ops : List Op) (place : ℕ) (flaw : Flaw) : Type 0 where
  pub rows : List Row
  pub loads : Loads f ops rows
  pub flawless : AreFlawless (next_in rows) rows start
  pub relation : Relation
  pub left : ℕ
  pub right : ℕ
  pub lacks : count_in rows relation left right ≡ count relation (built rows start) left right → ⊥
  pub place_is : length rows ≡ place
  pub flaw_is : flaw ≡ WrongCount

-- Why changes are refused, and at which place.
abbrev pub RefusesRows : Format → List Op → ℕ → Flaw → Type 0
RefusesRows f ops place flaw = AreUnread f ops place flaw ⊎ (AreFlawed f ops place flaw ⊎ LackCounts f ops place flaw)

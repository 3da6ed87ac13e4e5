-- What the private functions that load rows find and leave, of rows of either format. Only private functions and proofs of this crate cite this file.
use Rattle.std.specs.Prelude.{◌≡◌, ◌⊎◌, ℕ, true, List, ◌∷◌, ◌++◌, length, map, Some}
use Rattle.std.specs.List.{list_all}
use Rattle.ctrl_model.specs.declared.formats.Format.{Format}
use Rattle.ctrl_model.specs.declared.kinds.Kind.{Kind}
use Rattle.ctrl_model.specs.State.{State}
use Rattle.row_codec.specs.declared.rows.Row.{Row}
use Rattle.row_codec.specs.RowForm.{is_row}
use Rattle.row_loading.specs.LoadedRows.{Loads, put_of}
use Rattle.row_loading.specs.RefusedRows.{AreFlawed, LackCounts}
use Rattle.state_building.specs.declared.flaws.Flaw.{Flaw}
use Rattle.state_building.specs.BuiltStates.{flaw_in, built, AreFlawless}

-- The row at a place is the first of some rows that cannot come next, from a state on.
pub record IsFirstFlaw (nexts : Kind → ℕ) (rows : List Row) (s : State) (place : ℕ) (flaw : Flaw) : Type 0 where
  pub before : List Row
  pub one : Row
  pub after : List Row
  pub split : rows ≡ before ++ one ∷ after
  pub flawless : AreFlawless nexts before s
  pub place_is : length before ≡ place
  pub flaw_is : flaw_in nexts one (built before s) ≡ Some flaw

-- A row that some state can have, in some format.
abbrev pub IsSomeRow : Row → Type 0
IsSomeRow x = (f : Format) × (is_row f x ≡ true)

-- Rows, each of which some state can have, in one format.
abbrev pub AreSomeRows : List Row → Type 0
AreSomeRows rows = (f : Format) × (list_all (is_row f) rows ≡ true)

-- Rows that load as the changes that put them, in one format.
abbrev pub AreLoaded : List Row → Type 0
AreLoaded rows = (f : Format) × Loads f (map (put_of f) rows) rows

-- The changes that put rows, in any format in which these load, are refused.
abbrev pub AreRefused : List Row → ℕ → Flaw → Type 0
AreRefused rows place flaw = (f : Format) → Loads f (map (put_of f) rows) rows
    → AreFlawed f (map (put_of f) rows) place flaw ⊎ LackCounts f (map (put_of f) rows) place flaw

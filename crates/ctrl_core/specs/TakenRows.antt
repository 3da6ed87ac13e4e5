-- What taking a row leaves. Only private functions and proofs of this crate cite this file.
use Rattle.std.specs.Prelude.{◌≡◌, ◌==◌, not, None}
use Rattle.std.specs.declared.option.Option.{Option}
use Rattle.ctrl_model.specs.Grants.{count}
use Rattle.ctrl_model.specs.State.{State}
use Rattle.row_codec.specs.declared.rows.Row.{Row}
use Rattle.state_building.specs.declared.flaws.Flaw.{Flaw}
use Rattle.state_building.specs.declared.flaws.Flaw.TheVariants.{WrongCount}
use Rattle.state_building.specs.JoinedRecords.{flaw_if}
use Rattle.state_building.specs.RowForms.{by_row}
use Rattle.core_stores.specs.declared.stores.Stores.{Stores}
use Rattle.ctrl_core.specs.JoinedRows.{KeepState}

-- The flaw is told that there is, and where there is none the stores keep the state after the row.
pub record Takes (told flaw : Option Flaw) (st : Stores) (next : State) : Type 0 where
  pub told_is : told ≡ flaw
  pub taken : flaw ≡ None → KeepState st next

-- Why a count that a row tells is wrong. Other rows tell none.
abbrev pub count_flaw_of : Row → State → Option Flaw
count_flaw_of x s = by_row (record {
  next = λ k n. None;
  setting = λ cost. None;
  one = λ k n r. None;
  count = λ r a b c. flaw_if (not (count r s a b == c)) WrongCount None;
  intercept = λ n i. None;
  serial = λ n. None;
}) x

-- The rows of terminators that a change touches, and those that are gone (docs/PROMISES.md, "Rows and batches").
use Rattle.std.specs.Prelude.{◌≡◌, ℕ, true, Some}
use Rattle.ctrl_model.specs.declared.kinds.Kind.TheVariants as kind
use Rattle.ctrl_model.specs.Numbered.{at}
use Rattle.ctrl_model.specs.State.{Terminator}
use Rattle.row_laws.specs.FittingRecords.{fits}
use Rattle.terminators.specs.TermTables.{TermTables}

-- Each terminator fits its row.
abbrev pub AreFit : TermTables → Type 0
AreFit k = (n : ℕ) (e : Terminator) → at k.terminators.rows n ≡ Some e → fits kind.Terminator e ≡ true

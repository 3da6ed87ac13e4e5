-- The rows of circuits that a change touches, and those that are gone (docs/PROMISES.md, "Rows and batches").
use Rattle.std.specs.Prelude.{◌≡◌, ℕ, true, Some}
use Rattle.ctrl_model.specs.declared.kinds.Kind.TheVariants as kind
use Rattle.ctrl_model.specs.Numbered.{at}
use Rattle.ctrl_model.specs.State.{Circuit}
use Rattle.row_laws.specs.FittingRecords.{fits}
use Rattle.circuits.specs.CircuitTables.{CircuitTables}

-- Each circuit fits its row.
abbrev pub HaveRows : CircuitTables → Type 0
HaveRows k = (n : ℕ) (c : Circuit) → at k.circuits.rows n ≡ Some c → fits kind.Circuit c ≡ true

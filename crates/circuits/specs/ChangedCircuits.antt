-- What one change does to the table of circuits, if there is one (`RecordChange` of `record_tables`).
use Rattle.std.specs.Prelude.{None, Some}
use Rattle.std.specs.declared.option.Option.{Option}
use Rattle.ctrl_model.specs.State.{Circuit}
use Rattle.record_tables.specs.declared.turns.Turn.{Turn}
use Rattle.record_tables.specs.declared.turns.Turn.TheVariants.{Adds, Removes, Keeps}
use Rattle.circuits.specs.declared.changes.CircuitChange.{CircuitChange}
use Rattle.circuits.specs.declared.changes.CircuitChange.TheVariants as change

-- What it does to the table.
abbrev pub turn_of : Option CircuitChange → Turn Circuit
turn_of None = Keeps
turn_of (Some (change.Add circuit)) = Adds circuit
turn_of (Some (change.Remove n)) = Removes n.0

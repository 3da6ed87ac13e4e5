-- What one change does to the table of terminators, if there is one (`RecordChange` of `record_tables`).
use Rattle.std.specs.Prelude.{None, Some}
use Rattle.std.specs.declared.option.Option.{Option}
use Rattle.ctrl_model.specs.State.{Terminator}
use Rattle.record_tables.specs.declared.turns.Turn.{Turn}
use Rattle.record_tables.specs.declared.turns.Turn.TheVariants.{Adds, Sets, Removes, Keeps}
use Rattle.terminators.specs.declared.changes.TermChange.{TermChange}
use Rattle.terminators.specs.declared.changes.TermChange.TheVariants as change

-- What it does to the table.
abbrev pub turn_of : Option TermChange → Turn Terminator
turn_of None = Keeps
turn_of (Some (change.Add term)) = Adds term
turn_of (Some (change.Set n cost precedence)) = Sets n.0
turn_of (Some (change.Remove n)) = Removes n.0

-- The terminator that is set anew, where the change sets one.
abbrev pub set_by : Option TermChange → Terminator → Terminator
set_by (Some (change.Set n cost precedence)) e = record e { cost = cost; precedence = precedence }
set_by o e = e

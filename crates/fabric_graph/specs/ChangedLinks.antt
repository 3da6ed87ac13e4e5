-- What one change does to the table of links, if there is one (`RecordChange` of `record_tables`).
use Rattle.std.specs.Prelude.{None, Some}
use Rattle.std.specs.declared.option.Option.{Option}
use Rattle.ctrl_model.specs.State.{Link}
use Rattle.record_tables.specs.declared.turns.Turn.{Turn}
use Rattle.record_tables.specs.declared.turns.Turn.TheVariants.{Adds, Sets, Removes, Keeps}
use Rattle.fabric_graph.specs.declared.changes.LinkChange.{LinkChange}
use Rattle.fabric_graph.specs.declared.changes.LinkChange.TheVariants as change

-- What it does to the table: the least router cost is no part of it.
abbrev pub turn_of : Option LinkChange → Turn Link
turn_of None = Keeps
turn_of (Some (change.Add row)) = Adds row
turn_of (Some (change.Set n cost latency_a latency_b up)) = Sets n.0
turn_of (Some (change.Remove n)) = Removes n.0
turn_of (Some (change.SetLeast cost)) = Keeps

-- The link that is set anew, where the change sets one.
abbrev pub set_by : Option LinkChange → Link → Link
set_by (Some (change.Set n cost latency_a latency_b up)) l = record l { cost = cost; latency_a = latency_a; latency_b = latency_b; up = up }
set_by o l = l

-- What a change makes of the table of links.
use Rattle.std.proofs.Common.{◌≡◌, Option, None, Some, refl}
use Rattle.record_tables.specs.AfterChange.{changed_by}
use Rattle.record_tables.specs.Turns.{turned_table}
use Rattle.fabric_graph.specs.declared.changes.LinkChange.{LinkChange}
use Rattle.fabric_graph.specs.declared.changes.LinkChange.TheVariants as change
use Rattle.fabric_graph.specs.ChangedLinks.{turn_of, set_by}
use Rattle.fabric_graph.specs.FabricChanges.{after_link_change}
use Rattle.fabric_graph.specs.FabricTables.{FabricSeen}

pub links_turned : (c : Option LinkChange) (f : FabricSeen) → turned_table (set_by c) (turn_of c) f.links ≡ (changed_by after_link_change c f).links
links_turned None f = refl
links_turned (Some (change.Add row)) f = refl
links_turned (Some (change.Set n cost latency_a latency_b up)) f = refl
links_turned (Some (change.Remove n)) f = refl
links_turned (Some (change.SetLeast cost)) f = refl

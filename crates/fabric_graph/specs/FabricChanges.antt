-- What one change makes of the links, and the links as they will be after it (docs/PROMISES.md, "Commands on links").
use Rattle.std.specs.Prelude.{ℕ, List}
use Rattle.std.specs.declared.option.Option.{Option}
use Rattle.record_tables.specs.AfterChange.{changed_by, without_numbers}
use Rattle.fabric_graph.specs.declared.changes.LinkChange.{LinkChange}
use Rattle.fabric_graph.specs.declared.changes.LinkChange.TheVariants as change
use Rattle.fabric_graph.specs.FabricTables.{FabricSeen, with_link, with_set, without_link, with_least}

-- The links after a change.
abbrev pub after_link_change : LinkChange → FabricSeen → FabricSeen
after_link_change (change.Add row) f = with_link row f
after_link_change (change.Set n cost latency_a latency_b up) f = with_set n.0 cost latency_a latency_b up f
after_link_change (change.Remove n) f = without_link n.0 f
after_link_change (change.SetLeast cost) f = with_least cost f

-- The links without those of some numbers.
abbrev pub without_links : List ℕ → FabricSeen → FabricSeen
without_links gone f = record f { links = without_numbers gone f.links }

-- The links after a change, if there is one, without those of some numbers.
abbrev pub fabric_after : Option LinkChange → List ℕ → FabricSeen → FabricSeen
fabric_after change gone f = without_links gone (changed_by after_link_change change f)

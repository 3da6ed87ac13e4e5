-- When a link may be added, what is found, and what a fabric keeps (docs/RULES.md, "Commands on links", "Limits").
use Rattle.std.specs.Prelude.{◌≡◌, ℕ, ◌≤◌, ⊤, Bool, true, not, ◌==◌, ◌&&◌, cond, List, length, Ok, Err, is_some}
use Rattle.std.specs.declared.result.Result.{Result}
use Rattle.std.specs.Option.{ok_or, option_map}
use Rattle.ctrl_model.specs.declared.kinds.Kind.TheVariants as kind
use Rattle.ctrl_model.specs.declared.numbering.LinkNo.{LinkNo}
use Rattle.ctrl_model.specs.ValueForms.{is_link_cost, is_latency}
use Rattle.ctrl_model.specs.Limits.{limit, last_next}
use Rattle.ctrl_model.specs.Numbered.{is_present, Between}
use Rattle.ctrl_model.specs.State.{Link, link_named}
use Rattle.ctrl_model.specs.Tables.{has_room}
use Rattle.ctrl_model.specs.ValidState.{each_passes}
use Rattle.fabric_graph.specs.declared.fabric.FabricFault.{FabricFault}
use Rattle.fabric_graph.specs.declared.fabric.FabricFault.TheVariants.{Exists, Unknown, SameRouter, Full}
use Rattle.fabric_graph.specs.FabricTables.{FabricSeen}

-- Whether one more link can be added: fewer than may be are present, and numbers have not run out.
abbrev pub has_link_room : FabricSeen → Bool
has_link_room f = has_room (limit kind.Link) f.links

-- Whether a link of a name may be added between two routers: the name is not taken, then there is room, and then the routers
-- are two.
abbrev pub may_add : List ℕ → ℕ → ℕ → FabricSeen → Result ⊤ FabricFault
may_add name a b f =
    cond (is_some (link_named f.links.rows name)) (Err Exists) (cond (has_link_room f) (cond (a == b) (Err SameRouter) (Ok tt)) (Err Full))

-- The number of the link of a name, if one has it.
abbrev pub found : List ℕ → FabricSeen → Result LinkNo FabricFault
found name f = ok_or (option_map (λ n. record { 0 = n }) (link_named f.links.rows name)) Unknown

-- Whether a link of a number is present.
abbrev pub is_there : ℕ → FabricSeen → Bool
is_there n f = is_present f.links.rows n

-- Whether what a path pays for a link is in its range: its cost, and the latencies that both ends report.
abbrev pub has_costs : Link → Bool
has_costs l = is_link_cost l.cost && (is_latency l.latency_a && is_latency l.latency_b)

-- A link that may be kept: it joins two routers, at costs in their ranges.
abbrev pub is_fit : Link → Bool
is_fit l = not (l.a == l.b) && has_costs l

-- What a fabric keeps: the numbers ascend from 1 below the next one, which has an end, no more links are present than may be, each joins
-- two routers, what a path pays for each is in its range, and so is the least cost of entering a router.
pub record KeepsLinks (f : FabricSeen) : Type 0 where
  pub first : 1 ≤ f.links.next
  pub last : f.links.next ≤ last_next
  pub ordered : Between 1 f.links.next f.links.rows
  pub few : length f.links.rows ≤ limit kind.Link
  pub fit : each_passes is_fit f.links.rows ≡ true
  pub costs : each_passes has_costs f.links.rows ≡ true
  pub setting : is_link_cost f.least ≡ true

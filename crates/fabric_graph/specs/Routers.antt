-- Routers as the places of a graph: their order is that of their numbers, and the place of a router is how many stand before it
-- (docs/PROMISES.md, "The graph of a fabric").
use Rattle.std.specs.Prelude.{◌≡◌, ℕ, ◌<◌, ◌≤◌, nat_le, Bool, true, false, List, [], length, map, slice_get, slice_index, Some}
use Rattle.std.specs.List.{list_all}
use Rattle.ctrl_model.specs.declared.kinds.RouterSeen.{RouterSeen}
use Rattle.ctrl_model.specs.ValueForms.{is_cost}
use Rattle.ctrl_model.specs.Mirrors.{Mirrors}
use Rattle.ctrl_model.specs.Networks.{Network, hops, is_on}
use Rattle.ctrl_model.specs.Numbered.{Between, no_rows}
use Rattle.ctrl_model.specs.State.{State}
use Rattle.path_certificate.specs.Graphs.{GraphSeen, graph_hops}
use Rattle.path_certificate.specs.declared.graph.Step.{Step}
use Rattle.fabric_graph.specs.FabricTables.{FabricSeen}
use Rattle.ctrl_model.specs.Limits.{limit, most_cost}
use Rattle.ctrl_model.specs.ValidState.{each_passes}
use Rattle.fabric_graph.specs.FabricRules.{is_fit}
use Rattle.ctrl_model.specs.declared.kinds.Kind.TheVariants as kind

-- A router under its number.
abbrev pub numbered : RouterSeen → ℕ × RouterSeen
numbered r = (r.no.0, r)

-- The number of the router at a place.
abbrev pub number_at : List RouterSeen → ℕ → ℕ
number_at routers v = slice_index (map (λ (r : RouterSeen). r.no.0) routers) v

-- The router of a number stands at a place.
abbrev pub IsRouterPlace : ℕ → List RouterSeen → ℕ → Type 0
IsRouterPlace n routers i = (r : RouterSeen) × (slice_get routers i ≡ Some r) × (r.no.0 ≡ n)

-- A router of a number stands at a place, and is connected.
pub record IsPlaceOf (w : Network) (n v : ℕ) : Type 0 where
  pub below : v < length w.routers
  pub named : number_at w.routers v ≡ n
  pub on : is_on w n ≡ true

-- What routers must be: at most 256, by strictly ascending number, each cost in its range.
pub record AreRouters (routers : List RouterSeen) : Type 0 where
  pub few : length routers ≤ limit kind.Router
  pub ordered : Between 0 4294967296 (map numbered routers)
  pub costs : list_all (λ (r : RouterSeen). is_cost r.cost) routers ≡ true

-- The links and the least router cost as a network sees them, with some routers. Nothing else of a network matters to paths.
abbrev pub network : FabricSeen → List RouterSeen → Network
network f routers = record {
  routers = routers;
  links = f.links.rows;
  least = f.least;
  terminators = [];
  load = λ _. 0;
  dial = λ _ _. 0;
  bind = λ _ _. 0;
  identity_router = λ _ _. 0;
  service_router = λ _ _. 0;
  full = false;
}

-- The network of these routers and of a least router cost, without links. That is all that the hop over a given link depends on.
abbrev pub crossed : ℕ → List RouterSeen → Network
crossed least routers = network (record { links = no_rows; least = least }) routers

-- Links that have a graph: each joins two routers at costs in their ranges, and the least router cost is not above its range.
pub record HaveGraph (f : FabricSeen) : Type 0 where
  pub fit : each_passes is_fit f.links.rows ≡ true
  pub least : f.least ≤ most_cost

-- A graph has the hops of a network, between the places of its routers.
pub record IsGraphOf (w : Network) (g : GraphSeen) : Type 0 where
  pub places : length g.through ≡ length w.routers
  pub mirrors : (t : ℕ) → t < length w.routers → Mirrors (length w.routers) (number_at w.routers) (graph_hops g t) (hops w (number_at w.routers t))

-- Whether each step costs at most so much.
abbrev pub costs_at_most : ℕ → List Step → Bool
costs_at_most most steps = list_all (λ (s : Step). nat_le s.cost most) steps

-- The fabric of a state: its links, and its least router cost.
abbrev pub fabric_of : State → FabricSeen
fabric_of s = record { links = s.links; least = s.least_router_cost }

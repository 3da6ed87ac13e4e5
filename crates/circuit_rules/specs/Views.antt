-- The network that a view shows, and a request in the words of the rules (docs/PROMISES.md, "Circuit requests").
use Rattle.std.specs.Prelude.{ℕ, Bool, List}
use Rattle.std.specs.Option.{option_map}
use Rattle.ctrl_model.specs.declared.kinds.RouterSeen.{RouterSeen}
use Rattle.ctrl_model.specs.Networks.{Network}
use Rattle.ctrl_model.specs.Choices as choices
use Rattle.fabric_graph.specs.FabricTables.{FabricSeen}
use Rattle.fabric_graph.specs.Routers as fabric
use Rattle.grant_denorm.specs.PairCounts.{count_of}
use Rattle.terminators.specs.TermTables.{TermTables, open_at}
use Rattle.circuit_rules.specs.declared.views.View.{View}
use Rattle.circuit_rules.specs.declared.views.Ask.{Ask}
use Rattle.circuit_rules.specs.declared.views.Wanted.{Wanted}
use Rattle.circuit_rules.specs.declared.views.Wanted.TheVariants as wanted

-- The network of routers, of links with the least router cost, of terminators with what is open at them, and of the grant counts of the
-- four relations, by whether no circuit can be added: that of the links and the routers, with all the rest.
abbrev pub network_by : List RouterSeen → FabricSeen → TermTables → (dial bind identity_router service_router : List ((ℕ × ℕ) × ℕ)) → Bool → Network
network_by routers f t dial bind identity_router service_router full = record (fabric.network f routers) {
  terminators = t.terminators.rows;
  load = open_at t;
  dial = count_of dial;
  bind = count_of bind;
  identity_router = count_of identity_router;
  service_router = count_of service_router;
  full = full;
}

-- The network of what a view shows.
abbrev pub network : View → Network
network v =
    network_by v.routers.now v.fabric.now v.terminators.now v.dial.now v.bind.now v.identity_router.now v.service_router.now v.circuits_full

-- The ingress that a request names, by its number.
abbrev pub wanted_of : Wanted → choices.Wanted
wanted_of wanted.Any = choices.Any
wanted_of wanted.Absent = choices.Absent
wanted_of (wanted.One r) = choices.One r.0

-- The request by numbers.
abbrev pub asked : Ask → choices.Ask
asked a = record {
  identity = option_map (λ i. i.0) a.identity;
  service = option_map (λ s. s.0) a.service;
  ingress = wanted_of a.ingress;
  instance = a.instance;
}

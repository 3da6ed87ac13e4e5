-- The graph of the usable links: that it is a graph, what its steps cost, and that it mirrors the network.
use Rattle.std.proofs.Common.{◌≡◌, ℕ, ◌<◌, ◌≤◌, nat_le, Bool, true, inl, inr, List, [], ◌∷◌, map, length, Option, Some, None, refl, sym, ◌∙◌, ap, subst, le-leb}
use Rattle.std.proofs.lemmas.List.{length-map}
use Rattle.std.specs.List.{find, AllByRecursion}
use Rattle.std.specs.Option.{option_map, option_and_then}
use Rattle.ctrl_model.specs.declared.kinds.RouterSeen.{RouterSeen}
use Rattle.ctrl_model.specs.Membership.{Among}
use Rattle.ctrl_model.specs.Mirrors.{Mirrors, renamed}
use Rattle.ctrl_model.specs.Networks.{hops, across}
use Rattle.ctrl_model.specs.Limits.{most_cost}
use Rattle.ctrl_model.specs.Numbered.{Table, at, Between}
use Rattle.ctrl_model.specs.State.{Link}
use Rattle.ctrl_model.specs.ValidState.{each_passes}
use Rattle.ctrl_model.proofs.Members.{list_all-from_among}
use Rattle.path_certificate.specs.declared.graph.Step.{Step}
use Rattle.path_certificate.specs.Graphs.{GraphSeen, IsGraph, IsStep, graph_hops, leaves, taken}
use Rattle.path_certificate.proofs.StepLaws.{by_hop}
use Rattle.fabric_graph.specs.FabricTables.{FabricSeen}
use Rattle.fabric_graph.specs.FabricRules.{is_fit}
use Rattle.fabric_graph.specs.Routers.{AreRouters, network, number_at, costs_at_most}
use Rattle.fabric_graph.specs.Steps.{link_steps, all_steps, by_place}
use Rattle.fabric_graph.proofs.FairLaws.{IsFair, each_fair}
use Rattle.fabric_graph.proofs.FindLaws.{find-by_place, find-all_steps}
use Rattle.fabric_graph.proofs.HopLaws.{across_link, one_place}
use Rattle.fabric_graph.proofs.OrderLaws.{by_by_place, ordered-by_place, ordered-leaving}

all_from_among : {X : Type 0} (P : X → Type 0) (xs : List X) → ((x : X) → Among x xs → P x) → AllByRecursion P xs
all_from_among P [] k = tt
all_from_among P (x ∷ xs) k = (k x (inl refl), all_from_among P xs (λ y m. k y (inr m)))

-- the flags of the routers
abbrev pub flags_of : List RouterSeen → List Bool
flags_of routers = map (λ (r : RouterSeen). r.through) routers

-- the graph of the routers and of some steps
abbrev pub graph_by : List RouterSeen → List Step → GraphSeen
graph_by routers all = record { through = flags_of routers; steps = by_place all (length routers) }

module _ (links : Table Link) (least : ℕ) (routers : List RouterSeen) (ordered : Between 1 links.next links.rows) (fit : each_passes is_fit links.rows ≡ true) (small : least ≤ most_cost) (are : AreRouters routers) where
  -- the steps by place
  abbrev pub steps_of : List Step
  steps_of = by_place (all_steps routers least links.rows) (length routers)

  fair : (s : Step) → Among s steps_of → IsFair (length routers) s
  fair s m = by_by_place (all_steps routers least links.rows) (length routers) s m (λ among below.
      each_fair routers least links.rows are small fit s among)

  pub is_graph : IsGraph (flags_of routers) steps_of
  is_graph = record {
    few = rw (length-map {B = Bool} routers (λ (r : RouterSeen). r.through)) are.few;
    each = rw (length-map {B = Bool} routers (λ (r : RouterSeen). r.through)) (all_from_among (IsStep (length routers)) steps_of (λ s m. (fair s m).step));
    ordered = ordered-by_place (all_steps routers least links.rows) (λ v. ordered-leaving routers least links.next links.rows 1 v ordered fit) (length routers);
  }

  -- the fabric as contracts see it, and its graph
  abbrev pub fabric_of : FabricSeen
  fabric_of = record { links = links; least = least }

  abbrev pub graph : GraphSeen
  graph = graph_by routers (all_steps routers least links.rows)

  same_hop : (t v l : ℕ) → t < length routers → v < length routers
      → hops (network fabric_of routers) (number_at routers t) (number_at routers v) l ≡ option_map (renamed (number_at routers)) (graph_hops graph t v l)
  same_hop t v l p q =
      by (at links.rows l)
      ∙ ap (λ o. option_map (renamed (number_at routers)) (option_and_then (taken (flags_of routers) t) o))
      (sym (find-by_place v l (length routers) (all_steps routers least links.rows) q ∙ find-all_steps v l routers least links.next links.rows 1 ordered))
    where
      by : (o : Option Link) → option_and_then (across (network fabric_of routers) (number_at routers t) (number_at routers v)) o
          ≡ option_map (renamed (number_at routers)) (option_and_then (taken (flags_of routers) t) (option_and_then (λ link. find (leaves v l) (link_steps routers least (l, link))) o))
      by None = refl
      by (Some link) = across_link fabric_of routers are.ordered t v l link p q

  same_hops : (t : ℕ) → t < length routers → Mirrors (length routers) (number_at routers) (graph_hops graph t) (hops (network fabric_of routers) (number_at routers t))
  same_hops t p = record {
    hop = λ v l q. same_hop t v l p q;
    stays = λ v l h q is. by_hop graph t v l h is (λ s m from link counts e. subst (λ (k : ℕ × ℕ). k.0 < length routers) e (fair s m).step.to);
    apart = λ u v q r e. one_place 4294967296 routers 0 u v are.ordered q r e;
  }

  pub mirrors : (g : GraphSeen) → g ≡ graph → (t : ℕ) → t < length routers → Mirrors (length routers) (number_at routers) (graph_hops g t) (hops (network fabric_of routers) (number_at routers t))
  mirrors g e t p = subst (λ (h : GraphSeen). Mirrors (length routers) (number_at routers) (graph_hops h t) (hops (network fabric_of routers) (number_at routers t))) (sym e) (same_hops t p)

  pub few_costs : (g : GraphSeen) → g ≡ graph → costs_at_most 251070 g.steps ≡ true
  few_costs g e =
      ap (λ (h : GraphSeen). costs_at_most 251070 h.steps) e ∙ list_all-from_among (λ (s : Step). nat_le s.cost 251070) steps_of (λ s m. le-leb s.cost 251070 (fair s m).most)

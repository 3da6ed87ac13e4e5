-- Laws on what the search needs: its bounds, and where the first choice stands.
use Rattle.std.proofs.Common.{◌≡◌, ℕ, suc, ◌+◌, ◌-◌, ◌*◌, ◌<◌, ◌≤◌, ◌==◌, max, nat_le, Bool, true, false, cond, List, [], ◌∷◌, length, get_or, Option, Some, None, inl, inr, refl, sym, ◌∙◌, ap, subst, arith, eq-eqb}
use Rattle.std.specs.List.{All}
use Rattle.std.proofs.lemmas.Bool.{and_parts, leb-true, false≢true}
use Rattle.std.proofs.lemmas.List.Elements.{All-filter}
use Rattle.std.proofs.lemmas.Option.{same_Some}
use Rattle.ctrl_model.specs.Limits.{most_terminator_cost}
use Rattle.ctrl_model.specs.Choices.{place_of}
use Rattle.ctrl_model.specs.Claims.{no_path}
use Rattle.ctrl_model.specs.Membership.{Among}
use Rattle.ctrl_model.proofs.Members.{Among-get_or, list_any-from_among}
use Rattle.path_certificate.specs.declared.graph.Step.{Step}
use Rattle.path_certificate.specs.Graphs.{GraphSeen, potential}
use Rattle.path_search.specs.Searches.{IsLeast, AreFew, greatest_cost}
use Rattle.fabric_graph.specs.Routers.{costs_at_most, IsGraphOf}
use Rattle.route_choice.specs.declared.choosing.Choice.{Choice}
use Rattle.circuit_rules.specs.declared.deciding.Ends.{Ends}
use Rattle.circuit_rules.specs.FoundRoutes.{AreWithin}
use Rattle.route_choice.specs.declared.choosing.Exit.{Exit}
use Rattle.route_choice.specs.declared.choosing.Entry.{Entry}
use Rattle.path_search.specs.Visits.{costs_to, SearchSeen}
use Rattle.circuit_rules.specs.Searched.{most_step_cost, IsSearchOf, IsFound, IsSearched}
use Rattle.path_search.specs.ExitCosts.{is_exit_at, AreCosts}
use Rattle.route_choice.specs.RouteChoices.{AreSmall, exits_at, choice_at, first_of_all}
use Rattle.circuit_rules.specs.declared.views.Route.{Route}
use Rattle.ctrl_model.specs.Networks.{Network}
use Rattle.circuit_rules.proofs.ChoiceLaws.{IsChosen, chosen}

-- what holds of each index holds of each element
pub all_among : {X : Type 0} (P : X → Type 0) (xs : List X) (x : X) → All P xs → Among x xs → P x
all_among P [] x h m = absurd m
all_among P (y ∷ xs) x h (inl e) = subst P e (h 0 y (omega arith))
all_among P (y ∷ xs) x h (inr m) = all_among P xs x (λ k d lt. h (suc k) d (omega arith)) m

-- and the other way round
pub all_from_among : {X : Type 0} (P : X → Type 0) (xs : List X) → ((x : X) → Among x xs → P x) → All P xs
all_from_among P xs h = λ k d lt. h (get_or xs k d) (Among-get_or xs k d lt)

-- ---- bounds

greatest-le : (most : ℕ) (steps : List Step) → costs_at_most most steps ≡ true → greatest_cost steps ≤ most
greatest-le most [] e = omega arith
greatest-le most (s ∷ steps) e =
    greater s.cost (greatest_cost steps) most (leb-true s.cost most (and_parts (nat_le s.cost most) (costs_at_most most steps) e).0)
    (greatest-le most steps (and_parts (nat_le s.cost most) (costs_at_most most steps) e).1)
  where
    greater : (a b m : ℕ) → a ≤ m → b ≤ m → max a b ≤ m
    greater a b m p q = omega arith

times_le : (n b v : ℕ) → n ≤ 256 → b ≤ most_step_cost → v ≤ (n - 1) * b → v ≤ 64022850
times_le n b v few most le = last v ((n - 1) * b) (255 * b) le (more (n - 1) b (omega arith)) (omega arith)
  where
    more : (m b : ℕ) → m ≤ 255 → m * b ≤ 255 * b
    more m b h = grind arith

    last : (v x y : ℕ) → v ≤ x → x ≤ y → y ≤ 64022850 → v ≤ 64022850
    last v x y h p q = omega arith

-- the place of an exit has one
pub exit_there : (exits : List Exit) (o : Exit) → Among o exits → is_exit_at exits o.place ≡ true
exit_there exits o m = list_any-from_among (λ (x : Exit). x.place == o.place) exits o m (eq-eqb o.place o.place refl)

pub small_costs : (g : GraphSeen) (exits : List Exit) (costs : List (List ℕ)) (places : ℕ) → places ≤ 256 → length g.through ≡ places → costs_at_most most_step_cost g.steps ≡ true
    → ((t : ℕ) → t < places → AreCosts g exits t (costs_to costs t)) → All (λ (o : Exit). o.place < places) exits
    → All (λ (o : Exit). AreSmall places (costs_to costs o.place)) exits
small_costs g exits costs places few same most least within =
    all_from_among (λ (o : Exit). AreSmall places (costs_to costs o.place)) exits (λ o m.
    small (costs_to costs o.place) (least o.place (all_among (λ (o : Exit). o.place < places) exits o within m) (exit_there exits o m)).0.places
    (least o.place (all_among (λ (o : Exit). o.place < places) exits o within m) (exit_there exits o m)).1)
  where
    small : (p : List ℕ) → length p ≡ length g.through → AreFew g p → AreSmall places p
    small p at_each bounded = record {
      places_are = at_each ∙ same;
      small = λ v below there. times_le (length g.through) (greatest_cost g.steps) (potential p v) (subst (λ n. n ≤ 256) (sym same) few) (greatest-le most_step_cost g.steps most)
          (bounded v (subst (λ n. v < n) (sym same) below) there);
    }

-- ---- where the first choice stands

-- the choice of an exit and an entry that have one
abbrev pub choice_of : List ℕ → Exit → Entry → Choice
choice_of p o x = record {
  precedence = o.precedence;
  total = o.cost + potential p x.place;
  terminator = o.terminator.0;
  ingress = x.router.0;
  from = x.place;
  to = o.place;
}

pub choice_told : (p : List ℕ) (o : Exit) (x : Entry) (c : Choice) → choice_at p o x ≡ Some c → ((potential p x.place == no_path) ≡ false) × (choice_of p o x ≡ c)
choice_told p o x c e = apart (potential p x.place == no_path) refl e
  where
    apart : (b : Bool) → (potential p x.place == no_path) ≡ b → cond b None (Some (choice_of p o x)) ≡ Some c → ((potential p x.place == no_path) ≡ false) × (choice_of p o x ≡ c)
    apart true is h = absurd (cc)
    apart false is h = (is, same_Some (choice_of p o x) c h)

-- the least costs of a graph to the places of exits, and entries and exits at its places
pub record IsReady (places : ℕ) (g : GraphSeen) (costs : List (List ℕ)) (entries : List Entry) (exits : List Exit) : Type 0 where
  pub places_are : length g.through ≡ places
  pub listed : length costs ≡ places
  pub least : (t : ℕ) → t < places → AreCosts g exits t (costs_to costs t)
  pub entries_in : All (λ (x : Entry). x.place < places) entries
  pub exits_in : All (λ (o : Exit). o.place < places) exits

pub ready : (w : Network) (s : SearchSeen) (costs : List (List ℕ)) (entries : List Entry) (exits : List Exit) → IsSearchOf w s → costs ≡ s.costs
    → length s.costs ≡ length s.graph.through → ((t : ℕ) → AreCosts s.graph exits t (costs_to s.costs t))
    → All (λ (x : Entry). x.place < length w.routers) entries → All (λ (o : Exit). o.place < length w.routers) exits → IsReady (length w.routers) s.graph costs entries exits
ready w s costs entries exits k same listed least in_entries in_exits = record {
  places_are = k.is_graph.places;
  listed = ap length same ∙ listed ∙ k.is_graph.places;
  least = λ t below. subst (λ cs. AreCosts s.graph exits t (costs_to cs t)) (sym same) (least t);
  entries_in = in_entries;
  exits_in = in_exits;
}

-- and so to those of the ends whose exits have one precedence
pub within_at : (places place : ℕ) (ends : Ends) → AreWithin places ends
    → All (λ (o : Exit). o.place < places) (exits_at place ends.exits.items) × All (λ (o : Exit). o.cost ≤ most_terminator_cost) (exits_at place ends.exits.items)
within_at places place ends h = (
  All-filter (λ (o : Exit). place_of o.precedence == place) (λ (o : Exit). o.place < places) ends.exits.items h.exits,
  All-filter (λ (o : Exit). place_of o.precedence == place) (λ (o : Exit). o.cost ≤ most_terminator_cost) ends.exits.items h.costs,
)

-- a search of the graph of a network is one of the network
pub search_of : (w : Network) (s : SearchSeen) (g : GraphSeen) → s.graph ≡ g → IsGraphOf w g → costs_at_most most_step_cost g.steps ≡ true → IsSearchOf w s
search_of w s g same is most = record {
  is_graph = subst (IsGraphOf w) (sym same) is;
  most = subst (λ (g : GraphSeen). costs_at_most most_step_cost g.steps ≡ true) (sym same) most;
}

-- a search goes on over the same graph
pub still_search : (w : Network) (s u : SearchSeen) → u.graph ≡ s.graph → IsSearchOf w s → IsSearchOf w u
still_search w s u same k = search_of w u s.graph same k.is_graph k.most

-- what was found by a search
pub searched : (w : Network) (s : SearchSeen) (costs : List (List ℕ)) (entries : List Entry) (exits : List Exit) (found : Option Route) → IsSearchOf w s → costs ≡ s.costs
    → ((t : ℕ) → AreCosts s.graph exits t (costs_to s.costs t)) → IsFound s.graph costs (first_of_all costs entries None exits) found → IsSearched w entries exits found
searched w s costs entries exits found k same least is = record {
  graph = s.graph;
  is_graph = k.is_graph;
  costs = costs;
  least = λ t below. subst (λ cs. AreCosts s.graph exits t (costs_to cs t)) (sym same) (least t);
  route = is;
}

-- a choice has a least path in a graph
pub record IsWalkable (g : GraphSeen) (costs : List (List ℕ)) (c : Choice) : Type 0 where
  pub to : c.to < length g.through
  pub from : c.from < length g.through
  pub listed : c.to < length costs
  pub least : IsLeast g c.to (costs_to costs c.to)
  pub there : potential (costs_to costs c.to) c.from < no_path

pub walkable : (places : ℕ) (g : GraphSeen) (costs : List (List ℕ)) (entries : List Entry) (exits : List Exit) (c : Choice) → IsReady places g costs entries exits
    → first_of_all costs entries None exits ≡ Some c → IsWalkable g costs c
walkable places g costs entries exits c k e = of (chosen costs entries exits c e)
  where
    of : IsChosen costs entries exits c → IsWalkable g costs c
    of h = subst (IsWalkable g costs) (choice_told (costs_to costs h.exit.place) h.exit h.entry c h.told).1 (record {
      to = subst (λ n. h.exit.place < n) (sym k.places_are) in_exits;
      from = subst (λ n. h.entry.place < n) (sym k.places_are) in_entries;
      listed = subst (λ n. h.exit.place < n) (sym k.listed) in_exits;
      least = least_at.0;
      there = below (potential (costs_to costs h.exit.place) h.entry.place)
          (least_at.0.each h.entry.place (subst (λ n. h.entry.place < n) (sym k.places_are) in_entries)).within
          (choice_told (costs_to costs h.exit.place) h.exit h.entry c h.told).0;
    })
      where
        in_exits : h.exit.place < places
        in_exits = all_among (λ (o : Exit). o.place < places) exits h.exit k.exits_in h.is_exit

        in_entries : h.entry.place < places
        in_entries = all_among (λ (x : Entry). x.place < places) entries h.entry k.entries_in h.is_entered

        least_at : IsLeast g h.exit.place (costs_to costs h.exit.place) × AreFew g (costs_to costs h.exit.place)
        least_at = k.least h.exit.place in_exits (exit_there exits h.exit h.is_exit)

        below : (a : ℕ) → a ≤ no_path → (a == no_path) ≡ false → a < no_path
        below a le ne = lt_of a (λ same. false≢true (sym ne ∙ eq-eqb a no_path same)) le
          where
            lt_of : (a : ℕ) → (a ≡ no_path → ⊥) → a ≤ no_path → a < no_path
            lt_of a ne le = omega arith

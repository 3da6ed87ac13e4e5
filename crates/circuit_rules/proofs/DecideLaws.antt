-- Laws by which the search between entries and exits tells of the candidates of a request.
use Rattle.std.proofs.Common.{◌≡◌, ℕ, ◌+◌, ◌<◌, ◌≤◌, ◌==◌, ◌⊎◌, ⊎_elim, eqb-true, true, false, cond, List, [], ◌∷◌, map, flat_map, length, Some, None, refl, sym, ◌∙◌, ap, subst, subst₂, arith, is_lt, nat_cmp}
use Rattle.std.specs.List.{All, find}
use Rattle.std.specs.Option.{option_map_or}
use Rattle.std.specs.Cmp.Lexicographic.{slice_cmp}
use Rattle.std.proofs.lemmas.Bool.{and_parts, cond-false}
use Rattle.std.proofs.lemmas.Option.{same_Some}
use Rattle.std.proofs.lemmas.Simd.{map-map}
use Rattle.ctrl_model.specs.declared.kinds.RouterSeen.{RouterSeen}
use Rattle.ctrl_model.specs.Claims.{no_path}
use Rattle.ctrl_model.specs.Membership.{Among}
use Rattle.ctrl_model.specs.Numbered.{at, numbers}
use Rattle.ctrl_model.specs.PlainPaths.{NoneTwice}
use Rattle.ctrl_model.specs.State.{Terminator}
use Rattle.ctrl_model.specs.Networks.{Network, router_at, is_on, may_host, admissible, is_path, path_cost, paths}
use Rattle.ctrl_model.specs.Choices.{Ask, candidate, candidates_between, candidates_for, ingresses, precedes, place_of, terminator_cost, IsIngress, IsBest}
use Rattle.ctrl_model.proofs.Members.{Among-map, by_map, by_flat_map, by_filter, empty_list}
use Rattle.model_laws.proofs.NumberLaws.{at-unique, Between-none_twice}
use Rattle.model_laws.proofs.PathLaws.{paths-is_path}
use Rattle.model_laws.proofs.CandidateLaws.{by_ingresses, by_admissible, candidates-for, candidates-are}
use Rattle.path_certificate.specs.Graphs.{GraphSeen, potential}
use Rattle.path_search.specs.Searches.{IsFirst}
use Rattle.fabric_graph.specs.Routers.{AreRouters, numbered, IsGraphOf}
use Rattle.route_choice.specs.declared.choosing.Choice.{Choice}
use Rattle.route_choice.specs.declared.choosing.Exit.{Exit}
use Rattle.route_choice.specs.declared.choosing.Entry.{Entry}
use Rattle.circuit_rules.specs.declared.views.Route.{Route}
use Rattle.circuit_rules.specs.declared.offers.Offer.{Offer}
use Rattle.circuit_rules.specs.Offers.{offer_of}
use Rattle.path_search.specs.Visits.{costs_to}
use Rattle.circuit_rules.specs.Searched.{place_in, entry_of, exit_from, exit_of, entries_to, exits_to, IsBestRoute, GoesFirst}
use Rattle.path_search.specs.ExitCosts.{AreCosts}
use Rattle.route_choice.specs.RouteChoices.{exits_at, is_before, choice_at, first_of_all}
use Rattle.circuit_rules.proofs.ChoiceLaws.{IsChosen, none_chosen}
use Rattle.circuit_rules.proofs.WayLaws.{IsWay, place_known, path_in_graph, path_in_network, path_there, same_path_cost}
use Rattle.circuit_rules.proofs.SearchLaws.{all_from_among, choice_of, choice_told, exit_there}
use Rattle.circuit_rules.proofs.RankLaws.{rank_not_below, greater_head}

-- ---- where the search goes

-- a request, and the least costs to the places of some of its exits
pub record IsSearch (w : Network) (ask : Ask) (i s : ℕ) (g : GraphSeen) (exits : List Exit) (costs : List (List ℕ)) : Type 0 where
  pub who : ask.identity ≡ Some i
  pub what : ask.service ≡ Some s
  pub routers : AreRouters w.routers
  pub once : NoneTwice (numbers w.terminators)
  pub is_graph : IsGraphOf w g
  pub least : (t : ℕ) → t < length w.routers → AreCosts g exits t (costs_to costs t)

at-find : (routers : List RouterSeen) (n : ℕ) → at (map numbered routers) n ≡ find (λ (r : RouterSeen). r.no.0 == n) routers
at-find [] n = refl
at-find (r ∷ routers) n = ap (λ o. cond (r.no.0 == n) (Some r) o) (at-find routers n)

router_known : (w : Network) → AreRouters w.routers → (r : RouterSeen) → Among r w.routers → router_at w r.no.0 ≡ Some r
router_known w k r m =
    sym (at-find w.routers r.no.0)
    ∙ at-unique (map numbered w.routers) (Between-none_twice 0 4294967296 (map numbered w.routers) k.ordered) (r.no.0, r) (Among-map numbered w.routers r m)

-- a possible ingress is connected
pub ingress_on : (w : Network) → AreRouters w.routers → (ask : Ask) (i s : ℕ) (r : RouterSeen) → Among r (ingresses w ask.ingress i s) → is_on w r.no.0 ≡ true
ingress_on w k ask i s r m = of (by_ingresses w ask.ingress i s r m)
  where
    of : IsIngress w ask.ingress i s r → is_on w r.no.0 ≡ true
    of h = ap (λ o. option_map_or (λ (q : RouterSeen). q.connected) o false) (router_known w k r h.present) ∙ h.is_connected

-- and so is the router of an admissible terminator
pub terminator_on : (w : Network) (s : ℕ) (instance : List ℕ) (e : ℕ × Terminator) → Among e (admissible w s instance) → is_on w e.1.router ≡ true
terminator_on w s instance e m =
    (and_parts (is_on w e.1.router) (option_map_or (may_host w e.1) e.1.host true) (by_admissible w s instance e m).serves).0

-- the places of entries and of exits are places of the network
pub entries_placed : (w : Network) → AreRouters w.routers → (ask : Ask) (i s : ℕ) → All (λ (x : Entry). x.place < length w.routers) (entries_to w ask i s)
entries_placed w k ask i s =
    all_from_among (λ (x : Entry). x.place < length w.routers) (entries_to w ask i s) (λ x m.
    by_map (entry_of w.routers) (ingresses w ask.ingress i s) x m (λ r n is.
    subst (λ (y : Entry). y.place < length w.routers) is (place_known w r.no.0 (ingress_on w k ask i s r n)).below))

pub exits_placed : (w : Network) (ask : Ask) (s : ℕ) → All (λ (o : Exit). o.place < length w.routers) (exits_to w ask s)
exits_placed w ask s =
    all_from_among (λ (o : Exit). o.place < length w.routers) (exits_to w ask s) (λ o m.
    by_map (exit_of w) (admissible w s ask.instance) o m (λ e n is.
    subst (λ (y : Exit). y.place < length w.routers) is (place_known w e.1.router (terminator_on w s ask.instance e n)).below))

-- what the admissible terminators of a request offer are its exits
pub exits_are : (w : Network) (ask : Ask) (s : ℕ) (offers : List Offer) → offers ≡ map (offer_of w) (admissible w s ask.instance) → map (exit_from w.routers) offers ≡ exits_to w ask s
exits_are w ask s offers same = ap (map (exit_from w.routers)) same ∙ map-map (exit_from w.routers) (offer_of w) (admissible w s ask.instance)

-- ---- ways between entries and exits

-- the least costs to the router of a terminator
abbrev pub costs_for : Network → List (List ℕ) → ℕ × Terminator → List ℕ
costs_for w costs e = costs_to costs (place_in w.routers e.1.router)

way : (w : Network) (ask : Ask) (i s : ℕ) (g : GraphSeen) (exits : List Exit) (costs : List (List ℕ)) → IsSearch w ask i s g exits costs
    → (r : RouterSeen) → Among r (ingresses w ask.ingress i s) → (e : ℕ × Terminator) → Among e (admissible w s ask.instance) → Among (exit_of w e) exits
    → IsWay w g (costs_for w costs e) r.no.0 e.1.router (place_in w.routers r.no.0) (place_in w.routers e.1.router)
way w ask i s g exits costs k r in_r e in_e searched = record {
  from = place_known w r.no.0 (ingress_on w k.routers ask i s r in_r);
  to = place_known w e.1.router (terminator_on w s ask.instance e in_e);
  is_graph = k.is_graph;
  least = (k.least (place_in w.routers e.1.router) (place_known w e.1.router (terminator_on w s ask.instance e in_e)).below
      (exit_there exits (exit_of w e) searched)).0;
}

-- where there is a path, there is a choice
choice_there : (w : Network) (ask : Ask) (i s : ℕ) (g : GraphSeen) (exits : List Exit) (costs : List (List ℕ)) → IsSearch w ask i s g exits costs
    → (r : RouterSeen) → Among r (ingresses w ask.ingress i s) → (e : ℕ × Terminator) → Among e (admissible w s ask.instance) → Among (exit_of w e) exits
    → (links : List ℕ) → is_path w r.no.0 links e.1.router ≡ true
    → choice_at (costs_for w costs e) (exit_of w e) (entry_of w.routers r) ≡ Some (choice_of (costs_for w costs e) (exit_of w e) (entry_of w.routers r))
choice_there w ask i s g exits costs k r in_r e in_e searched links path =
    cond-false (potential (costs_for w costs e) (place_in w.routers r.no.0) == no_path) None
    (Some (choice_of (costs_for w costs e) (exit_of w e) (entry_of w.routers r)))
    (path_there w g (costs_for w costs e) r.no.0 e.1.router (place_in w.routers r.no.0) (place_in w.routers e.1.router) (way w ask i s g exits costs k r in_r e in_e searched) links path).0

-- where there is no choice, there is no path
pub no_path_to : (w : Network) (ask : Ask) (i s : ℕ) (g : GraphSeen) (exits : List Exit) (costs : List (List ℕ)) → IsSearch w ask i s g exits costs
    → first_of_all costs (entries_to w ask i s) None exits ≡ None
    → (r : RouterSeen) → Among r (ingresses w ask.ingress i s) → (e : ℕ × Terminator) → Among e (admissible w s ask.instance) → Among (exit_of w e) exits
    → (links : List ℕ) → is_path w r.no.0 links e.1.router ≡ true → ⊥
no_path_to w ask i s g exits costs k none r in_r e in_e searched links path =
    clash (sym (none_chosen costs (entries_to w ask i s) exits none (exit_of w e) searched
    (entry_of w.routers r) (Among-map (entry_of w.routers) (ingresses w ask.ingress i s) r in_r))
    ∙ choice_there w ask i s g exits costs k r in_r e in_e searched links path)
  where
    clash : {X : Type 0} {x : X} → None ≡ Some x → ⊥
    clash e = absurd (cc)

-- where there is no path to any terminator, there is no candidate
pub no_candidates : (w : Network) (ask : Ask) (i s : ℕ)
    → ((r : RouterSeen) → Among r (ingresses w ask.ingress i s) → (e : ℕ × Terminator) → Among e (admissible w s ask.instance) → (links : List ℕ) → is_path w r.no.0 links e.1.router ≡ true → ⊥)
    → candidates_for w ask i s ≡ []
no_candidates w ask i s none =
    empty_list (candidates_for w ask i s) (λ d m.
    by_flat_map (λ (r : RouterSeen). flat_map (candidates_between w r) (admissible w s ask.instance)) (ingresses w ask.ingress i s) d m (λ r in_r n.
    by_flat_map (candidates_between w r) (admissible w s ask.instance) d n (λ e in_e o.
    by_map (candidate w r e) (paths w r.no.0 e.1.router) d o (λ links listed _.
    none r in_r e in_e links ((paths-is_path w r.no.0 e.1.router links).0 listed)))))

-- ---- the best candidate

-- a terminator with a path is one of those that were searched, or its precedence is worse than one at a place
abbrev pub OthersFollow : Network → Ask → ℕ → ℕ → List Exit → ℕ → Type 0
OthersFollow w ask i s exits place =
    (q : RouterSeen) → Among q (ingresses w ask.ingress i s) → (x : ℕ × Terminator) → Among x (admissible w s ask.instance) → (ls : List ℕ)
    → is_path w q.no.0 ls x.1.router ≡ true → Among (exit_of w x) exits ⊎ (place < place_of x.1.precedence)

-- the candidate of a terminator, an ingress and the first of the least paths between them is the best of those that were searched, if
-- no choice comes before theirs, and so of all, if the others have a worse precedence
pub best_of : (w : Network) (ask : Ask) (i s : ℕ) (g : GraphSeen) (exits : List Exit) (costs : List (List ℕ)) → IsSearch w ask i s g exits costs
    → (r : RouterSeen) → Among r (ingresses w ask.ingress i s) → (e : ℕ × Terminator) → Among e (admissible w s ask.instance) → Among (exit_of w e) exits → (links : List ℕ)
    → IsFirst g (place_in w.routers e.1.router) (costs_for w costs e) (place_in w.routers r.no.0) links
    → OthersFollow w ask i s exits (place_of e.1.precedence)
    → ((o : Exit) → Among o exits → (x : Entry) → Among x (entries_to w ask i s) → (d : Choice) → choice_at (costs_to costs o.place) o x ≡ Some d
    → is_before d (choice_of (costs_for w costs e) (exit_of w e) (entry_of w.routers r)) ≡ false)
    → IsBest w ask (candidate w r e links)
best_of w ask i s g exits costs k r in_r e in_e searched links f others first = record {
  is_candidate = record {
    identity = i;
    service = s;
    router = r;
    terminator = e;
    who = k.who;
    what = k.what;
    enters = by_ingresses w ask.ingress i s r in_r;
    ends = by_admissible w s ask.instance e in_e;
    path = path_in_network w g (costs_for w costs e) r.no.0 e.1.router (place_in w.routers r.no.0) (place_in w.routers e.1.router) here links f.path_is;
    told = refl;
  };
  first = λ d m.
      by_flat_map (λ (q : RouterSeen). flat_map (candidates_between w q) (admissible w s ask.instance)) (ingresses w ask.ingress i s) d
      (subst (λ cs. Among d cs) (candidates-for w ask i s k.who k.what) ((candidates-are w ask d).1 m)) (λ q in_q n.
      by_flat_map (candidates_between w q) (admissible w s ask.instance) d n (λ x in_x o.
      by_map (candidate w q x) (paths w q.no.0 x.1.router) d o (λ ls listed is.
      subst (λ c. precedes c (candidate w r e links) ≡ false) is
      (against q in_q x in_x ls ((paths-is_path w q.no.0 x.1.router ls).0 listed)))));
}
  where
    here : IsWay w g (costs_for w costs e) r.no.0 e.1.router (place_in w.routers r.no.0) (place_in w.routers e.1.router)
    here = way w ask i s g exits costs k r in_r e in_e searched

    cost_here : path_cost w r.no.0 links e.1.router ≡ potential (costs_for w costs e) (place_in w.routers r.no.0)
    cost_here = same_path_cost w g (costs_for w costs e) r.no.0 e.1.router (place_in w.routers r.no.0) (place_in w.routers e.1.router) here links ∙ f.cost_is

    more : (a m n : ℕ) → m ≤ n → a + m ≤ a + n
    more a m n h = omega arith

    same_rest : (a m n : ℕ) → a + m ≡ a + n → m ≡ n
    same_rest a m n h = omega arith

    -- another path of the same cost between the two
    tied : (n : ℕ) (x : ℕ × Terminator) (ls : List ℕ) → n ≡ r.no.0 → x ≡ e → is_path w n ls x.1.router ≡ true
        → terminator_cost w x + path_cost w n ls x.1.router ≡ terminator_cost w e + potential (costs_for w costs e) (place_in w.routers r.no.0) → is_lt (slice_cmp nat_cmp ls links) ≡ false
    tied n x ls same_n same_x path total =
        f.first ls
        (path_in_graph w g (costs_for w costs e) r.no.0 e.1.router (place_in w.routers r.no.0) (place_in w.routers e.1.router) here ls
        (subst₂ (λ a (b : ℕ × Terminator). is_path w a ls b.1.router ≡ true) same_n same_x path))
        (sym (same_path_cost w g (costs_for w costs e) r.no.0 e.1.router (place_in w.routers r.no.0) (place_in w.routers e.1.router) here ls)
        ∙ same_rest (terminator_cost w e) (path_cost w r.no.0 ls e.1.router) (potential (costs_for w costs e) (place_in w.routers r.no.0))
        (subst₂ (λ a (b : ℕ × Terminator). terminator_cost w b + path_cost w a ls b.1.router ≡ terminator_cost w e + potential (costs_for w costs e) (place_in w.routers r.no.0)) same_n same_x total))

    -- a terminator that was searched as well
    alike : (q : RouterSeen) → Among q (ingresses w ask.ingress i s) → (x : ℕ × Terminator) → Among x (admissible w s ask.instance) → Among (exit_of w x) exits → (ls : List ℕ)
        → is_path w q.no.0 ls x.1.router ≡ true → precedes (candidate w q x ls) (candidate w r e links) ≡ false
    alike q in_q x in_x in_exits ls path =
        subst (λ n. is_lt (slice_cmp nat_cmp (place_of x.1.precedence ∷ (terminator_cost w x + path_cost w q.no.0 ls x.1.router) ∷ x.0 ∷ q.no.0 ∷ ls) (place_of e.1.precedence ∷ (terminator_cost w e + n) ∷ e.0 ∷ r.no.0 ∷ links)) ≡ false)
        (sym cost_here)
        (rank_not_below (place_of x.1.precedence) (terminator_cost w x + potential (costs_for w costs x) (place_in w.routers q.no.0)) (terminator_cost w x + path_cost w q.no.0 ls x.1.router) x.0 q.no.0
        (place_of e.1.precedence) (terminator_cost w e + potential (costs_for w costs e) (place_in w.routers r.no.0)) e.0 r.no.0
        (place_in w.routers q.no.0 ∷ place_in w.routers x.1.router ∷ []) (place_in w.routers r.no.0 ∷ place_in w.routers e.1.router ∷ []) ls links
        (more (terminator_cost w x) (potential (costs_for w costs x) (place_in w.routers q.no.0)) (path_cost w q.no.0 ls x.1.router)
        (path_there w g (costs_for w costs x) q.no.0 x.1.router (place_in w.routers q.no.0) (place_in w.routers x.1.router) (way w ask i s g exits costs k q in_q x in_x in_exits) ls path).1)
        (first (exit_of w x) in_exits (entry_of w.routers q) (Among-map (entry_of w.routers) (ingresses w ask.ingress i s) q in_q)
        (choice_of (costs_for w costs x) (exit_of w x) (entry_of w.routers q)) (choice_there w ask i s g exits costs k q in_q x in_x in_exits ls path))
        (λ total same_x same_q. tied q.no.0 x ls same_q
        (λ j. (same_x j, same_Some x.1 e.1 (sym (at-unique w.terminators k.once x (by_admissible w s ask.instance x in_x).present) ∙ (ap (at w.terminators) same_x ∙ at-unique w.terminators k.once e (by_admissible w s ask.instance e in_e).present)) j))
        path total))

    against : (q : RouterSeen) → Among q (ingresses w ask.ingress i s) → (x : ℕ × Terminator) → Among x (admissible w s ask.instance) → (ls : List ℕ)
        → is_path w q.no.0 ls x.1.router ≡ true → precedes (candidate w q x ls) (candidate w r e links) ≡ false
    against q in_q x in_x ls path =
        ⊎_elim (λ in_exits. alike q in_q x in_x in_exits ls path)
        (λ (worse : place_of e.1.precedence < place_of x.1.precedence).
        greater_head (place_of x.1.precedence) (place_of e.1.precedence) ((terminator_cost w x + path_cost w q.no.0 ls x.1.router) ∷ x.0 ∷ q.no.0 ∷ ls)
        ((terminator_cost w e + path_cost w r.no.0 links e.1.router) ∷ e.0 ∷ r.no.0 ∷ links) worse)
        (others q in_q x in_x ls path)

-- the route over the first of the least paths of the first choice of one precedence is that of the best candidate, if the others
-- have a worse one
pub best_route : (w : Network) (ask : Ask) (i s : ℕ) (g : GraphSeen) (exits : List Exit) (costs : List (List ℕ)) → IsSearch w ask i s g exits costs
    → (place : ℕ) → exits ≡ exits_at place (exits_to w ask s) → OthersFollow w ask i s exits place
    → (c : Choice) → IsChosen costs (entries_to w ask i s) exits c → (r : Route) → GoesFirst g costs c r → IsBestRoute w ask r
best_route w ask i s g exits costs k place level others c h r goes =
    by_filter (λ (o : Exit). place_of o.precedence == place) (exits_to w ask s) h.exit (subst (λ os. Among h.exit os) level h.is_exit) (λ is_exit own.
    by_map (exit_of w) (admissible w s ask.instance) h.exit is_exit (λ e in_e is_end.
    by_map (entry_of w.routers) (ingresses w ask.ingress i s) h.entry h.is_entered (λ q in_q is_entry.
    of e in_e (subst (λ o. Among o exits) (sym is_end) h.is_exit) (ap (λ (o : Exit). place_of o.precedence) is_end ∙ eqb-true (place_of h.exit.precedence) place own)
    q in_q (same e q is_end is_entry))))
  where
    same : (e : ℕ × Terminator) (q : RouterSeen) → exit_of w e ≡ h.exit → entry_of w.routers q ≡ h.entry
        → choice_of (costs_for w costs e) (exit_of w e) (entry_of w.routers q) ≡ c
    same e q is_end is_entry =
        subst₂ (λ (o : Exit) (x : Entry). choice_of (costs_to costs o.place) o x ≡ c) (sym is_end) (sym is_entry)
        (choice_told (costs_to costs h.exit.place) h.exit h.entry c h.told).1

    of : (e : ℕ × Terminator) → Among e (admissible w s ask.instance) → Among (exit_of w e) exits → place_of e.1.precedence ≡ place
        → (q : RouterSeen) → Among q (ingresses w ask.ingress i s)
        → choice_of (costs_for w costs e) (exit_of w e) (entry_of w.routers q) ≡ c → IsBestRoute w ask r
    of e in_e searched at_place q in_q is = with_goes (subst (λ d. GoesFirst g costs d r) (sym is) goes)
      where
        with_goes : GoesFirst g costs (choice_of (costs_for w costs e) (exit_of w e) (entry_of w.routers q)) r → IsBestRoute w ask r
        with_goes y = record {
          chosen = candidate w q e r.links;
          best = best_of w ask i s g exits costs k q in_q e in_e searched r.links y.1 (subst (OthersFollow w ask i s exits) (sym at_place) others)
              (λ o in_o x in_x d told. subst (λ b. is_before d b ≡ false) (sym is) (h.first o in_o x in_x d told));
          route = y.0 ∙ ap (λ n. record { ingress = q.no; links = r.links; terminator = record { 0 = e.0 }; total = terminator_cost w e + n })
              (sym (same_path_cost w g (costs_for w costs e) q.no.0 e.1.router (place_in w.routers q.no.0) (place_in w.routers e.1.router) (way w ask i s g exits costs k q in_q e in_e searched) r.links ∙ y.1.cost_is));
        }

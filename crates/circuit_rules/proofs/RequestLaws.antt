-- Laws on the whole of a request: what the search found tells the best route, and with the rules what is decided.
use Rattle.std.proofs.Common.{◌≡◌, ℕ, ◌<◌, ◌≤◌, ◌==◌, ◌⊎◌, inl, inr, eq-eqb, length, subst₂, Bool, true, false, cond, List, [], ◌∷◌, ◌++◌, Option, Some, None, Ok, Err, refl, sym, ◌∙◌, ap, ap₂, subst, arith}
use Rattle.std.proofs.lemmas.Bool.{cases_order}
use Rattle.std.specs.List.{All}
use Rattle.std.specs.Option.{option_map_or}
use Rattle.std.specs.Result.{IsErrAnd}
use Rattle.std.specs.declared.result.Result.{Result}
use Rattle.ctrl_model.specs.Limits.{most_terminator_cost}
use Rattle.ctrl_model.specs.declared.kinds.RouterSeen.{RouterSeen}
use Rattle.ctrl_model.specs.declared.refusals.Denial.{Denial}
use Rattle.ctrl_model.specs.declared.refusals.Denial.TheVariants.{UnknownIdentity, UnknownService, NoPath, CircuitsFull}
use Rattle.ctrl_model.specs.Membership.{Among}
use Rattle.ctrl_model.specs.Matches.{is_nothing}
use Rattle.ctrl_model.specs.Numbered.{numbers}
use Rattle.ctrl_model.specs.PlainPaths.{NoneTwice}
use Rattle.ctrl_model.specs.ValueForms.{is_cost}
use Rattle.ctrl_model.specs.State.{Terminator}
use Rattle.ctrl_model.specs.ValidState.{each_passes}
use Rattle.ctrl_model.specs.Networks.{Network, is_path, admissible}
use Rattle.ctrl_model.specs.Choices.{Ask, Candidate, ingresses, place_of, candidates_for, first_denial, failing, first_rule}
use Rattle.ctrl_model.proofs.Tests.{in_bounds}
use Rattle.ctrl_model.proofs.Members.{by_map, Among-map, Among-filter, something, list_all-among}
use Rattle.model_laws.proofs.CandidateLaws.{by_admissible, candidates-for, candidates-are, best-is}
use Rattle.fabric_graph.specs.Routers.{AreRouters}
use Rattle.route_choice.specs.declared.choosing.Choice.{Choice}
use Rattle.route_choice.specs.declared.choosing.Exit.{Exit}
use Rattle.route_choice.specs.declared.choosing.Entry.{Entry}
use Rattle.circuit_rules.specs.declared.views.Route.{Route}
use Rattle.circuit_rules.specs.Decisions.{Grants, Decides}
use Rattle.circuit_rules.specs.declared.views.DecideFault.{DecideFault}
use Rattle.circuit_rules.specs.declared.views.DecideFault.TheVariants as fault
use Rattle.circuit_rules.specs.Searched.{Passes, end_rules, way_rules, exit_of, entries_to, exits_to, IsFound, IsSearched, IsBestRoute, IsBestWay}
use Rattle.route_choice.specs.RouteChoices.{exits_at, first_of_all}
use Rattle.circuit_rules.specs.FoundRoutes.{IsFoundFirst, AreEnds, route_found}
use Rattle.circuit_rules.specs.declared.deciding.Ends.{Ends}
use Rattle.circuit_rules.specs.declared.deciding.Found.{Found}
use Rattle.circuit_rules.proofs.ChoiceLaws.{chosen}
use Rattle.circuit_rules.proofs.SearchLaws.{all_from_among}
use Rattle.circuit_rules.proofs.DecideLaws.{IsSearch, OthersFollow, entries_placed, exits_placed, no_path_to, no_candidates, best_route}

-- ---- what the search found

pub exits_cheap : (w : Network) (ask : Ask) (s : ℕ) → each_passes (λ (e : Terminator). is_cost e.cost) w.terminators ≡ true → ((n : ℕ) → w.load n ≤ 16384) → All (λ (o : Exit). o.cost ≤ most_terminator_cost) (exits_to w ask s)
exits_cheap w ask s costs loads =
    all_from_among (λ (o : Exit). o.cost ≤ most_terminator_cost) (exits_to w ask s) (λ o m.
    by_map (exit_of w) (admissible w s ask.instance) o m (λ e n is.
    subst (λ (y : Exit). y.cost ≤ most_terminator_cost) is
    (let static = (in_bounds 0 65535 e.1.cost (list_all-among (λ (x : ℕ × Terminator). is_cost x.1.cost) w.terminators e costs (by_admissible w s ask.instance e n).present)).1 in
    let load = loads e.0 in omega (arith, static, load))))

-- a request, its routers and its terminators
pub record IsRequest (w : Network) (ask : Ask) (i s : ℕ) : Type 0 where
  pub who : ask.identity ≡ Some i
  pub what : ask.service ≡ Some s
  pub routers : AreRouters w.routers
  pub once : NoneTwice (numbers w.terminators)

module _ (w : Network) (ask : Ask) (i s : ℕ) (k : IsRequest w ask i s) where
  -- the exits of one precedence
  abbrev level : ℕ → List Exit
  level p = exits_at p (exits_to w ask s)

  in_level : (p : ℕ) (e : ℕ × Terminator) → Among e (admissible w s ask.instance) → place_of e.1.precedence ≡ p → Among (exit_of w e) (level p)
  in_level p e in_e at_place =
      Among-filter (λ (o : Exit). place_of o.precedence == p) (exits_to w ask s) (exit_of w e) (Among-map (exit_of w) (admissible w s ask.instance) e in_e)
      (eq-eqb (place_of e.1.precedence) p at_place)

  search_of : (exits : List Exit) (found : Option Route) (h : IsSearched w (entries_to w ask i s) exits found) → IsSearch w ask i s h.graph exits h.costs
  search_of exits found h = record { who = k.who; what = k.what; routers = k.routers; once = k.once; is_graph = h.is_graph; least = h.least }

  -- where nothing is found of a precedence, there is no path to a terminator of it
  no_path_at : (p : ℕ) → IsSearched w (entries_to w ask i s) (level p) None → (r : RouterSeen) → Among r (ingresses w ask.ingress i s)
      → (e : ℕ × Terminator) → Among e (admissible w s ask.instance) → place_of e.1.precedence ≡ p → (links : List ℕ) → is_path w r.no.0 links e.1.router ≡ true → ⊥
  no_path_at p h r in_r e in_e at_place links path = from (first_of_all h.costs (entries_to w ask i s) None (level p)) refl h.route
    where
      from : (o : Option Choice) → first_of_all h.costs (entries_to w ask i s) None (level p) ≡ o → IsFound h.graph h.costs o None → ⊥
      from None is f = no_path_to w ask i s h.graph (level p) h.costs (search_of (level p) None h) is r in_r e in_e (in_level p e in_e at_place) links path
      from (Some c) is f = absurd f

  -- what is found first is the best way
  found_way : (found : Option Route) → IsFoundFirst w (entries_to w ask i s) (exits_to w ask s) found → IsBestWay w ask i s found
  found_way None none = no_candidates w ask i s (λ r in_r e in_e links path.
      no_path_at (place_of e.1.precedence) (none e.1.precedence) r in_r e in_e refl links path)
  found_way (Some r) (p, h, better) = from (first_of_all h.costs (entries_to w ask i s) None (level p)) refl h.route
    where
      others : OthersFollow w ask i s (level p) p
      others q in_q x in_x ls path = by (cases_order (place_of x.1.precedence) p)
        where
          by : (place_of x.1.precedence ≡ p) ⊎ ((place_of x.1.precedence < p) ⊎ (p < place_of x.1.precedence)) → Among (exit_of w x) (level p) ⊎ (p < place_of x.1.precedence)
          by (inl same) = inl (in_level p x in_x same)
          by (inr (inl before)) =
              absurd (no_path_at (place_of x.1.precedence) (better x.1.precedence before) q in_q x in_x refl ls path)
          by (inr (inr after)) = inr after

      from : (o : Option Choice) → first_of_all h.costs (entries_to w ask i s) None (level p) ≡ o → IsFound h.graph h.costs o (Some r) → IsBestWay w ask i s (Some r)
      from None is f = absurd f
      from (Some c) is f =
          best_route w ask i s h.graph (level p) h.costs (search_of (level p) (Some r) h) p refl others c (chosen h.costs (entries_to w ask i s) (level p) c is) r f

  -- of ends that are those of the request
  pub best_way : (ends : Ends) (found : Option Route) → AreEnds w ask i s ends → IsFoundFirst w ends.entries.items ends.exits.items found → IsBestWay w ask i s found
  best_way ends found are first =
      found_way found (subst₂ (λ xs os. IsFoundFirst w xs os found) are.0 are.1 first)

  -- and whose places are those of routers
  pub ends_entered : (ends : Ends) → AreEnds w ask i s ends → All (λ (x : Entry). x.place < length w.routers) ends.entries.items
  ends_entered ends are = subst (λ xs. All (λ (x : Entry). x.place < length w.routers) xs) (sym are.0) (entries_placed w k.routers ask i s)

  pub ends_left : (ends : Ends) → AreEnds w ask i s ends → All (λ (o : Exit). o.place < length w.routers) ends.exits.items
  ends_left ends are = subst (λ os. All (λ (o : Exit). o.place < length w.routers) os) (sym are.1) (exits_placed w ask s)

-- ---- rules in parts

-- where no rule of a part fails, the rest decides
first_denial-append : (xs ys : List (Bool × Denial)) → first_denial xs ≡ None → first_denial (xs ++ ys) ≡ first_denial ys
first_denial-append [] ys e = refl
first_denial-append (x ∷ xs) ys e = apart x.0 e (first_denial-append xs ys)
  where
    apart : (b : Bool) → cond b (Some x.1) (first_denial xs) ≡ None → (first_denial xs ≡ None → first_denial (xs ++ ys) ≡ first_denial ys)
        → cond b (Some x.1) (first_denial (xs ++ ys)) ≡ first_denial ys
    apart true h k = absurd (cc)
    apart false h k = k h

-- and a rule that fails in it fails first
first_denial-stays : (xs ys : List (Bool × Denial)) (d : Denial) → first_denial xs ≡ Some d → first_denial (xs ++ ys) ≡ Some d
first_denial-stays [] ys d e = absurd (cc)
first_denial-stays (x ∷ xs) ys d e = apart x.0 e (first_denial-stays xs ys d)
  where
    apart : (b : Bool) → cond b (Some x.1) (first_denial xs) ≡ Some d → (first_denial xs ≡ Some d → first_denial (xs ++ ys) ≡ Some d)
        → cond b (Some x.1) (first_denial (xs ++ ys)) ≡ Some d
    apart true h k = h
    apart false h k = k h

pub both_pass : (xs ys : List (Bool × Denial)) → first_denial xs ≡ None → first_denial ys ≡ None → first_denial (xs ++ ys) ≡ None
both_pass xs ys e f = first_denial-append xs ys e ∙ f

-- a request whose identity and service are present, and that passes the rules on where a circuit enters and ends
pub record IsPlaced (w : Network) (ask : Ask) (i s : ℕ) : Type 0 where
  pub who : ask.identity ≡ Some i
  pub what : ask.service ≡ Some s
  pub passes : first_denial (end_rules w ask i s) ≡ None

-- is decided by the rules on the way between
rest_of_rules : (w : Network) (ask : Ask) (i s : ℕ) → IsPlaced w ask i s → first_rule w ask ≡ first_denial (way_rules w ask i s)
rest_of_rules w ask i s p =
    ap (λ o. option_map_or (λ i. option_map_or (λ s. first_denial (failing w ask i s)) ask.service (Some UnknownService)) o (Some UnknownIdentity)) p.who
    ∙ ap (λ o. option_map_or (λ s. first_denial (failing w ask i s)) o (Some UnknownService)) p.what
    ∙ first_denial-append (end_rules w ask i s) (way_rules w ask i s) p.passes

-- without a candidate there is no path
pub no_path : (w : Network) (ask : Ask) (i s : ℕ) → IsPlaced w ask i s → candidates_for w ask i s ≡ [] → first_rule w ask ≡ Some NoPath
no_path w ask i s p none =
    rest_of_rules w ask i s p ∙ ap (λ (cs : List Candidate). cond (is_nothing cs) (Some NoPath) (cond w.full (Some CircuitsFull) None)) none

-- with a best one there is a path
by_room : (w : Network) (ask : Ask) (i s : ℕ) (r : Route) → IsPlaced w ask i s → IsBestRoute w ask r → (full : Bool) → w.full ≡ full
    → first_rule w ask ≡ cond full (Some CircuitsFull) None
by_room w ask i s r p b full is =
    rest_of_rules w ask i s p
    ∙ ap₂ (λ x y. cond x (Some NoPath) (cond y (Some CircuitsFull) None)) some_candidate is
  where
    some_candidate : is_nothing (candidates_for w ask i s) ≡ false
    some_candidate =
        something (candidates_for w ask i s) b.chosen
        (subst (λ cs. Among b.chosen cs) (candidates-for w ask i s p.who p.what) ((candidates-are w ask b.chosen).1 b.best.is_candidate))

-- so that the request fails where circuits are full
pub no_room : (w : Network) (ask : Ask) (i s : ℕ) (r : Route) → IsPlaced w ask i s → IsBestRoute w ask r → w.full ≡ true → first_rule w ask ≡ Some CircuitsFull
no_room w ask i s r p b full = by_room w ask i s r p b true full

-- and else its best route is granted
pub granted : (w : Network) (ask : Ask) (i s : ℕ) (r : Route) → IsPlaced w ask i s → IsBestRoute w ask r → w.full ≡ false → Grants w ask r
granted w ask i s r p b room = record {
  passes = by_room w ask i s r p b false room;
  chosen = b.chosen;
  is_best = (best-is w ask b.chosen).1 b.best;
  route = b.route;
}

-- ---- denials

-- a request that some of its rules deny is denied
pub denied : {X : Type 0} (P : X → Type 0) (w : Network) (ask : Ask) (i s : ℕ) (reason : DecideFault) → ask.identity ≡ Some i → ask.service ≡ Some s
    → Passes (end_rules w ask i s) P (Err reason) → Decides w ask (Err reason)
denied P w ask i s fault.NoMemory who what denial = tt
denied P w ask i s (fault.Denied d) who what denial =
    ap (λ o. option_map_or (λ i. option_map_or (λ s. first_denial (failing w ask i s)) ask.service (Some UnknownService)) o (Some UnknownIdentity)) who
    ∙ ap (λ o. option_map_or (λ s. first_denial (failing w ask i s)) o (Some UnknownService)) what
    ∙ first_denial-stays (end_rules w ask i s) (way_rules w ask i s) d denial

-- and so is what hands its denial on
pub handed_on : (w : Network) (ask : Ask) (r : Result Found DecideFault) (reason : DecideFault) → IsErrAnd r (λ y. y ≡ reason) → Decides w ask (Err reason)
    → Decides w ask (route_found r)
handed_on w ask (Ok x) reason e h = absurd e
handed_on w ask (Err y) reason e h = subst (λ z. Decides w ask (Err z)) (sym e) h

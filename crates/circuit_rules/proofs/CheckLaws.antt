-- Laws by which the check over the graph of the links judges the entries of a claim.
use Rattle.std.proofs.Common.{◌≡◌, ◌↔◌, ℕ, zero, suc, ◌<◌, ◌≤◌, ◌==◌, ◌&&◌, not, Bool, true, false, cond, inl, inr, List, [], ◌∷◌, length, map, Option, Some, None, refl, sym, ◌∙◌, ap, subst, arith, ltb, ltb-true, eqb-true, eq-eqb, le-leb, slice_get, unwrap_or}
use Rattle.std.proofs.lemmas.Bool.{and_parts, and_from, leb-true, le-ltb, not_from_false, false_from_ne_true}
use Rattle.std.proofs.lemmas.List.{length-map}
use Rattle.std.specs.List.{list_all}
use Rattle.std.specs.Option.{option_map}
use Rattle.ctrl_model.specs.declared.kinds.RouterSeen.{RouterSeen}
use Rattle.ctrl_model.specs.declared.claims.Reach.{Reach}
use Rattle.ctrl_model.specs.Claims.{no_path, router_numbers, value_at, reach_over, does_not_improve, is_settled}
use Rattle.ctrl_model.specs.Membership.{Among}
use Rattle.ctrl_model.specs.Mirrors.{Mirrors, renamed}
use Rattle.ctrl_model.specs.Networks.{Network, hops}
use Rattle.ctrl_model.specs.Numbered.{numbers}
use Rattle.ctrl_model.proofs.Members.{Among-get_or, each_among, list_all-among, list_all-from_among}
use Rattle.model_laws.proofs.PathLaws.{hops_named}
use Rattle.path_certificate.specs.declared.graph.Step.{Step}
use Rattle.path_certificate.specs.Graphs.{GraphSeen, IsGraph, IsStep, counts, graph_hops, potential, improves, none_improves}
use Rattle.path_certificate.specs.Certified.{Certified}
use Rattle.path_certificate.proofs.StepLaws.{hop_of}
use Rattle.path_certificate.proofs.LowerBounds.{settled_hop}
use Rattle.fabric_graph.specs.Routers.{number_at, IsGraphOf}
use Rattle.circuit_rules.specs.Searched.{place_in}
use Rattle.circuit_rules.proofs.ValueLaws.{value_at-placed, value_there}

-- ---- places and numbers

-- a number of a list of routers is that of a place
among_place : (routers : List RouterSeen) (n : ℕ) → Among n (map (λ (r : RouterSeen). r.no.0) routers) → (v : ℕ) × (v < length routers) × (number_at routers v ≡ n)
among_place [] n m = absurd m
among_place (r ∷ routers) n (inl e) = (0, omega arith, e)
among_place (r ∷ routers) n (inr m) = let p = among_place routers n m in (suc p.0, omega (arith, p.1), p.2)

-- the first place of the number at a place is a place of that number
first_place : (routers : List RouterSeen) (v : ℕ) → v < length routers
    → (place_in routers (number_at routers v) < length routers) × (number_at routers (place_in routers (number_at routers v)) ≡ number_at routers v)
first_place [] v h = absurd (omega arith)
first_place (r ∷ routers) zero h = rw (eq-eqb r.no.0 r.no.0 refl) (omega arith, refl)
first_place (r ∷ routers) (suc v) h = by (r.no.0 == number_at routers v) refl (first_place routers v (omega arith))
  where
    by : (b : Bool) → (r.no.0 == number_at routers v) ≡ b
        → (place_in routers (number_at routers v) < length routers) × (number_at routers (place_in routers (number_at routers v)) ≡ number_at routers v)
        → (cond b 0 (suc (place_in routers (number_at routers v))) < length (r ∷ routers))
        × (number_at (r ∷ routers) (cond b 0 (suc (place_in routers (number_at routers v)))) ≡ number_at routers v)
    by true is p = (omega arith, eqb-true r.no.0 (number_at routers v) is)
    by false is p = (omega (arith, p.0), p.1)

pub placed_number : (routers : List RouterSeen) (n : ℕ) → place_in routers n < length routers → number_at routers (place_in routers n) ≡ n
placed_number [] n h = absurd (omega arith)
placed_number (r ∷ routers) n h = by (r.no.0 == n) refl h (placed_number routers n)
  where
    by : (b : Bool) → (r.no.0 == n) ≡ b → cond b 0 (suc (place_in routers n)) < length (r ∷ routers)
        → (place_in routers n < length routers → number_at routers (place_in routers n) ≡ n)
        → number_at (r ∷ routers) (cond b 0 (suc (place_in routers n))) ≡ n
    by true is h again = eqb-true r.no.0 n is
    by false is h again = again (omega (arith, h))

-- an entry for a router that stands nowhere is not settled
pub absent_unsettled : (w : Network) (e : Reach) → length w.routers ≤ place_in w.routers e.router.0 → is_settled w e ≡ false
absent_unsettled w e far =
    by (length e.values == length w.routers) (list_all (λ v. list_all (λ l. does_not_improve (value_at (router_numbers w) e.values) v (hops w e.router.0 v l)) (numbers w.links)) (router_numbers w))
    (value_at (router_numbers w) e.values e.router.0)
    (value_at-placed e.router.0 w.routers e.values
    ∙ ap (λ b. cond b (unwrap_or (slice_get e.values (place_in w.routers e.router.0)) no_path) no_path) (le-ltb (place_in w.routers e.router.0) (length w.routers) far))
  where
    by : (a b : Bool) (n : ℕ) → n ≡ no_path → (a && ((n == 0) && b)) ≡ false
    by true b n is = rw is refl
    by false b n is = refl

value_got : (values : List ℕ) (v : ℕ) → v < length values → potential values v ≡ unwrap_or (slice_get values v) no_path
value_got [] v h = absurd (omega arith)
value_got (p ∷ values) zero h = refl
value_got (p ∷ values) (suc v) h = value_got values v (omega arith)

-- one test decides as another where each is passed with the other
pub same_tests : (a b : Bool) → (a ≡ true → b ≡ true) → (b ≡ true → a ≡ true) → a ≡ b
same_tests true b f k = sym (f refl)
same_tests false true f k = k refl
same_tests false false f k = refl

-- ---- an entry

module _ (w : Network) (g : GraphSeen) (e : Reach) (t : ℕ) (graph : IsGraph g.through g.steps) (k : IsGraphOf w g) (below : t < length w.routers)
    (named : number_at w.routers t ≡ e.router.0) where
  -- the value that the entry gives a router
  abbrev value : ℕ → ℕ
  value = value_at (router_numbers w) e.values

  -- whether no hop improves a value
  abbrev each : Bool
  each = list_all (λ v. list_all (λ l. does_not_improve value v (hops w e.router.0 v l)) (numbers w.links)) (router_numbers w)

  mirrors : Mirrors (length w.routers) (number_at w.routers) (graph_hops g t) (hops w (number_at w.routers t))
  mirrors = k.mirrors t below

  -- the value at the router of a place is the potential of the place
  value_of : length e.values ≡ length w.routers → (v : ℕ) → v < length w.routers → value (number_at w.routers v) ≡ potential e.values v
  value_of full v h =
      sym (value_there (number_at w.routers v) w.routers e.values v (sym same) h) ∙ sym (value_got e.values v (subst (λ n. v < n) (sym full) h))
    where
      same : place_in w.routers (number_at w.routers v) ≡ v
      same = let p = first_place w.routers v h in mirrors.apart (place_in w.routers (number_at w.routers v)) v p.0 h p.1

  hop_there : (v l : ℕ) → v < length w.routers → hops w e.router.0 (number_at w.routers v) l ≡ option_map (renamed (number_at w.routers)) (graph_hops g t v l)
  hop_there v l h = subst (λ n. hops w n (number_at w.routers v) l ≡ option_map (renamed (number_at w.routers)) (graph_hops g t v l)) named (mirrors.hop v l h)

  -- ---- what is certified is settled

  not_improved : length e.values ≡ length w.routers → none_improves g t e.values ≡ true → (v l : ℕ) → v < length w.routers
      → does_not_improve value (number_at w.routers v) (hops w e.router.0 (number_at w.routers v) l) ≡ true
  not_improved full settled v l h = rw (hop_there v l h) (by (graph_hops g t v l) refl)
    where
      by : (o : Option (ℕ × ℕ)) → graph_hops g t v l ≡ o → does_not_improve value (number_at w.routers v) (option_map (renamed (number_at w.routers)) o) ≡ true
      by None is = refl
      by (Some hop) is =
          rw (value_of full v h, value_of full hop.0 (mirrors.stays v l hop h is))
          (le-leb (potential e.values v) (reach_over hop.1 (potential e.values hop.0)) (settled_hop g t e.values v l hop settled is))

  pub certified_settled : Certified g t e.values t [] → is_settled w e ≡ true
  certified_settled c =
      and_from (length e.values == length w.routers) ((value e.router.0 == 0) && each) (eq-eqb (length e.values) (length w.routers) full)
      (and_from (value e.router.0 == 0) each (eq-eqb (value e.router.0) 0 (ap value (sym named) ∙ value_of full t below ∙ c.zero_at_target)) all)
    where
      full : length e.values ≡ length w.routers
      full = c.places ∙ k.places

      all : each ≡ true
      all = list_all-from_among (λ v. list_all (λ l. does_not_improve value v (hops w e.router.0 v l)) (numbers w.links)) (router_numbers w) (λ n m.
          list_all-from_among (λ l. does_not_improve value n (hops w e.router.0 n l)) (numbers w.links) (λ l _.
          let p = among_place w.routers n m in
          subst (λ x. does_not_improve value x (hops w e.router.0 x l) ≡ true) p.2 (not_improved full c.settled p.0 l p.1)))

  -- ---- what is settled is certified

  pub settled_certified : is_settled w e ≡ true → Certified g t e.values t []
  settled_certified h = record {
    places = full ∙ sym k.places;
    target_is_place = there;
    from_is_place = there;
    zero_at_target = sym (value_of full t below) ∙ ap value named ∙ eqb-true (value e.router.0) 0 rest.0;
    settled = list_all-from_among (λ s. not (improves g.through t e.values s)) g.steps (λ s m.
        not_from_false (improves g.through t e.values s) (false_from_ne_true (improves g.through t e.values s) (λ better.
        let both = and_parts (counts g.through t s) (ltb (reach_over s.cost (potential e.values s.to)) (potential e.values s.from)) better in
        let less : reach_over s.cost (potential e.values s.to) < potential e.values s.from = ltb-true (reach_over s.cost (potential e.values s.to)) (potential e.values s.from) both.1 in
        let low : potential e.values s.from ≤ reach_over s.cost (potential e.values s.to) = step s m both.0 in
        omega arith)));
    chain = eq-eqb t t refl;
  }
    where
      parts : ((length e.values == length w.routers) ≡ true) × (((value e.router.0 == 0) && each) ≡ true)
      parts = and_parts (length e.values == length w.routers) ((value e.router.0 == 0) && each) h

      rest : ((value e.router.0 == 0) ≡ true) × (each ≡ true)
      rest = and_parts (value e.router.0 == 0) each parts.1

      full : length e.values ≡ length w.routers
      full = eqb-true (length e.values) (length w.routers) parts.0

      there : t < length g.through
      there = subst (λ n. t < n) (sym k.places) below

      in_routers : (v : ℕ) → v < length w.routers → Among (number_at w.routers v) (router_numbers w)
      in_routers v b = Among-get_or (router_numbers w) v 0 (subst (λ n. v < n) (sym (length-map w.routers (λ (r : RouterSeen). r.no.0))) b)

      step : (s : Step) → Among s g.steps → counts g.through t s ≡ true → potential e.values s.from ≤ reach_over s.cost (potential e.values s.to)
      step s m c =
          let is = each_among (IsStep (length g.through)) g.steps s graph.each m in
          let from : s.from < length w.routers = subst (λ n. s.from < n) k.places is.from in
          let to : s.to < length w.routers = subst (λ n. s.to < n) k.places is.to in
          let hop : hops w e.router.0 (number_at w.routers s.from) s.link ≡ Some (number_at w.routers s.to, s.cost) =
          hop_there s.from s.link from ∙ ap (option_map (renamed (number_at w.routers))) (hop_of g t s graph.ordered m c) in
          let passed : does_not_improve value (number_at w.routers s.from) (hops w e.router.0 (number_at w.routers s.from) s.link) ≡ true =
          list_all-among (λ l. does_not_improve value (number_at w.routers s.from) (hops w e.router.0 (number_at w.routers s.from) l)) (numbers w.links) s.link
          (list_all-among (λ v. list_all (λ l. does_not_improve value v (hops w e.router.0 v l)) (numbers w.links)) (router_numbers w) (number_at w.routers s.from) rest.1 (in_routers s.from from))
          (hops_named w e.router.0 (number_at w.routers s.from) s.link (number_at w.routers s.to, s.cost) hop) in
          let low : value (number_at w.routers s.from) ≤ reach_over s.cost (value (number_at w.routers s.to)) =
          leb-true (value (number_at w.routers s.from)) (reach_over s.cost (value (number_at w.routers s.to)))
          (subst (λ o. does_not_improve value (number_at w.routers s.from) o ≡ true) hop passed) in
          subst (λ a. a ≤ reach_over s.cost (potential e.values s.to)) (value_of full s.from from)
          (subst (λ b. value (number_at w.routers s.from) ≤ reach_over s.cost b) (value_of full s.to to) low)

  -- the check's answer for an entry is whether it is settled
  pub checked_settled : (b : Bool) → (b ≡ true) ↔ Certified g t e.values t [] → b ≡ is_settled w e
  checked_settled b says = same_tests b (is_settled w e) (λ yes. certified_settled (says.0 yes)) (λ yes. says.1 (settled_certified yes))

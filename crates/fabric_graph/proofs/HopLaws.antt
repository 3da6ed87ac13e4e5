-- Laws of hops: over a link the graph's steps go where the network's hops go, between the places of the routers.
use Rattle.std.proofs.Common.{◌≡◌, ◌≢◌, ℕ, zero, suc, ◌+◌, ◌≤◌, ◌<◌, ◌==◌, Bool, true, false, cond, ◌&&◌, ◌||◌, ◌⊎◌, inl, inr, List, [], ◌∷◌, map, length, slice_get, Option, Some, None, refl, sym, ◌∙◌, ap, ap₂, arith, eq-eqb, ne_eqb}
use Rattle.std.proofs.lemmas.Bool.{cases_eq, cases_lt}
use Rattle.std.proofs.lemmas.Option.{none-some, same_Some, slice_get_within}
use Rattle.std.specs.List.{find, slice_index_or}
use Rattle.std.specs.Option.{option_map, option_map_or, option_and_then}
use Rattle.ctrl_model.specs.declared.kinds.RouterSeen.{RouterSeen}
use Rattle.ctrl_model.specs.Mirrors.{renamed}
use Rattle.ctrl_model.specs.Networks.{across, hop_to, router_at, is_on, other_end, link_cost}
use Rattle.ctrl_model.specs.Numbered.{Between}
use Rattle.ctrl_model.specs.State.{Link}
use Rattle.path_certificate.specs.Graphs.{leaves, taken}
use Rattle.fabric_graph.specs.declared.steps.End.{End}
use Rattle.fabric_graph.specs.FabricTables.{FabricSeen}
use Rattle.fabric_graph.specs.Routers.{numbered, number_at, IsPlaceOf, network}
use Rattle.fabric_graph.specs.Steps.{end_at, step_between, link_steps, two_steps}
use Rattle.fabric_graph.proofs.EndLaws.{IsEnd, end_is, end_none}

-- ---- the router at a place

pub number_of : (routers : List RouterSeen) (v : ℕ) (r : RouterSeen) → slice_get routers v ≡ Some r → number_at routers v ≡ r.no.0
number_of [] v r s = absurd (none-some r s)
number_of (x ∷ routers) zero r s = ap (λ (y : RouterSeen). y.no.0) (same_Some x r s)
number_of (x ∷ routers) (suc v) r s = number_of routers v r s

through_of : (routers : List RouterSeen) (v : ℕ) (r : RouterSeen) → slice_get routers v ≡ Some r
    → slice_index_or (map (λ (y : RouterSeen). y.through) routers) v false ≡ r.through
through_of [] v r s = absurd (none-some r s)
through_of (x ∷ routers) zero r s = ap (λ (y : RouterSeen). y.through) (same_Some x r s)
through_of (x ∷ routers) (suc v) r s = through_of routers v r s

at_least : (high : ℕ) (routers : List RouterSeen) (low v : ℕ) → Between low high (map numbered routers) → v < length routers → low ≤ number_at routers v
at_least high [] low v b l = absurd (omega arith)
at_least high (x ∷ routers) low zero b l = b.0
at_least high (x ∷ routers) low (suc v) b l = let later = at_least high routers (x.no.0 + 1) v b.2 (omega arith) in let first = b.0 in omega arith

rises : (high : ℕ) (routers : List RouterSeen) (low u v : ℕ) → Between low high (map numbered routers) → u < v → v < length routers → number_at routers u < number_at routers v
rises high [] low u v b m l = absurd (omega arith)
rises high (x ∷ routers) low u zero b m l = absurd (omega arith)
rises high (x ∷ routers) low zero (suc v) b m l = let later = at_least high routers (x.no.0 + 1) v b.2 (omega arith) in omega arith
rises high (x ∷ routers) low (suc u) (suc v) b m l = rises high routers (x.no.0 + 1) u v b.2 (omega arith) (omega arith)

pub one_place : (high : ℕ) (routers : List RouterSeen) (low u v : ℕ) → Between low high (map numbered routers) → u < length routers → v < length routers
    → number_at routers u ≡ number_at routers v → u ≡ v
one_place high routers low u v b l m e = by (cases_lt u v) (cases_lt v u)
  where
    by : (u < v) ⊎ (v ≤ u) → (v < u) ⊎ (u ≤ v) → u ≡ v
    by (inl below) other = let less = rises high routers low u v b below m in absurd (omega arith)
    by (inr above) (inl below) = let less = rises high routers low v u b below l in absurd (omega arith)
    by (inr above) (inr below) = omega arith

-- two places are one exactly where their numbers are
pub same_place : (high : ℕ) (routers : List RouterSeen) (low u v : ℕ) → Between low high (map numbered routers) → u < length routers → v < length routers
    → (number_at routers u == number_at routers v) ≡ (u == v)
same_place high routers low u v b l m = by (cases_eq u v)
  where
    by : (u ≡ v) ⊎ (u ≢ v) → (number_at routers u == number_at routers v) ≡ (u == v)
    by (inl e) = eq-eqb (number_at routers u) (number_at routers v) (ap (number_at routers) e) ∙ sym (eq-eqb u v e)
    by (inr ne) = ne_eqb (number_at routers u) (number_at routers v) (λ s. ne (one_place high routers low u v b l m s)) ∙ sym (ne_eqb u v ne)

-- ---- hops over a link

map_kept : {A B : Type 0} (g : A → B) (c : Bool) (x : A) → cond c (Some (g x)) None ≡ option_map g (cond c (Some x) None)
map_kept g true x = refl
map_kept g false x = refl

module _ (f : FabricSeen) (routers : List RouterSeen) (b : Between 0 4294967296 (map numbered routers)) where
  -- the hop to the router of an end is the step to it
  hop_to_end : (t k n : ℕ) (l : Link) (d e : End) → t < length routers → (i : IsEnd routers f.least n e)
      → hop_to (network f routers) (number_at routers t) l i.router
      ≡ option_map (renamed (number_at routers)) (taken (map (λ (r : RouterSeen). r.through) routers) t (step_between k (link_cost l) d e))
  hop_to_end t k n l d e below i =
      let number = number_of routers e.place i.router i.stands in
      let target : (i.router.no.0 == number_at routers t) ≡ (e.place == t) =
      ap (λ m. m == number_at routers t) (sym number) ∙ same_place 4294967296 routers 0 e.place t b (slice_get_within routers e.place i.router i.stands) below in
      let test = ap₂ (λ p q. p || q) target (sym (through_of routers e.place i.router i.stands)) in
      ap₂ (λ (c : Bool) (h : ℕ × ℕ). cond c (Some h) None) test (λ j. (sym number j, link_cost l + i.entry j))
      ∙ map_kept (renamed (number_at routers)) ((e.place == t) || slice_index_or (map (λ (r : RouterSeen). r.through) routers) e.place false) (e.place, link_cost l + e.entry)

  end_on_is : (n : ℕ) (e : End) → IsEnd routers f.least n e → is_on (network f routers) n ≡ true
  end_on_is n e i = ap (λ o. option_map_or (λ (r : RouterSeen). r.connected) o false) i.found ∙ i.connected

  -- the place of an end is that of its router
  pub place_of_end : (n : ℕ) (e : End) → IsEnd routers f.least n e → IsPlaceOf (network f routers) n e.place
  place_of_end n e i = record {
    below = slice_get_within routers e.place i.router i.stands;
    named = number_of routers e.place i.router i.stands ∙ i.number;
    on = end_on_is n e i;
  }

  -- a router is the one at a place exactly where its end is there
  at_end : (v n : ℕ) (e : End) → v < length routers → IsEnd routers f.least n e → (n == number_at routers v) ≡ (e.place == v)
  at_end v n e below i =
      ap (λ m. m == number_at routers v) (sym (number_of routers e.place i.router i.stands ∙ i.number))
      ∙ same_place 4294967296 routers 0 e.place v b (slice_get_within routers e.place i.router i.stands) below

  pub across_link : (t v k : ℕ) (l : Link) → t < length routers → v < length routers
      → across (network f routers) (number_at routers t) (number_at routers v) l
      ≡ option_map (renamed (number_at routers)) (option_and_then (taken (map (λ (r : RouterSeen). r.through) routers) t) (find (leaves v k) (link_steps routers f.least (k, l))))
  across_link t v k l p q = by l.up (end_at f.least l.a routers) (end_at f.least l.b routers) refl refl
    where
      goes_on : Option (ℕ × ℕ)
      goes_on = option_and_then (hop_to (network f routers) (number_at routers t) l) (option_and_then (router_at (network f routers)) (other_end (number_at routers v) l))

      two : (x y : End) → IsEnd routers f.least l.a x → IsEnd routers f.least l.b y
          → goes_on ≡ option_map (renamed (number_at routers)) (option_and_then (taken (map (λ (r : RouterSeen). r.through) routers) t) (find (leaves v k) (two_steps k (link_cost l) x y)))
      two x y i j =
          ap₂ (λ (c d : Bool). option_and_then (hop_to (network f routers) (number_at routers t) l) (option_and_then (router_at (network f routers)) (cond c (Some l.b) (cond d (Some l.a) None))))
          (at_end v l.a x q i) (at_end v l.b y q j)
          ∙ ends (x.place == v) (y.place == v)
          ∙ ap (λ c. option_map (renamed (number_at routers)) (option_and_then (taken (map (λ (r : RouterSeen). r.through) routers) t)
          (cond ((x.place == v) && c) (Some (step_between k (link_cost l) x y)) (cond ((y.place == v) && c) (Some (step_between k (link_cost l) y x)) None)))) (sym (eq-eqb k k refl))
        where
          ends : (c d : Bool)
              → option_and_then (hop_to (network f routers) (number_at routers t) l) (option_and_then (router_at (network f routers)) (cond c (Some l.b) (cond d (Some l.a) None)))
              ≡ option_map (renamed (number_at routers)) (option_and_then (taken (map (λ (r : RouterSeen). r.through) routers) t)
              (cond (c && true) (Some (step_between k (link_cost l) x y)) (cond (d && true) (Some (step_between k (link_cost l) y x)) None)))
          ends true d = ap (option_and_then (hop_to (network f routers) (number_at routers t) l)) j.found ∙ hop_to_end t k l.b l x y p j
          ends false true = ap (option_and_then (hop_to (network f routers) (number_at routers t) l)) i.found ∙ hop_to_end t k l.a l y x p i
          ends false false = refl

      by : (up : Bool) (x y : Option End) → end_at f.least l.a routers ≡ x → end_at f.least l.b routers ≡ y
          → cond (up && (is_on (network f routers) l.a && is_on (network f routers) l.b)) goes_on None
          ≡ option_map (renamed (number_at routers)) (option_and_then (taken (map (λ (r : RouterSeen). r.through) routers) t) (find (leaves v k)
          (option_map_or (λ (e : End × End). two_steps k (link_cost l) e.0 e.1) (cond up (option_and_then (λ a. option_map (λ b. (a, b)) y) x) None) [])))
      by false x y r s = refl
      by true None y r s = ap (λ c. cond (c && is_on (network f routers) l.b) goes_on None) (end_none routers f.least l.a r)
      by true (Some x) None r s =
          ap₂ (λ c d. cond (c && d) goes_on None) (end_on_is l.a x (end_is routers f.least l.a x r)) (end_none routers f.least l.b s)
      by true (Some x) (Some y) r s =
          ap₂ (λ c d. cond (c && d) goes_on None) (end_on_is l.a x (end_is routers f.least l.a x r)) (end_on_is l.b y (end_is routers f.least l.b y s))
          ∙ two x y (end_is routers f.least l.a x r) (end_is routers f.least l.b y s)

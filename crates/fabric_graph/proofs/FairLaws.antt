-- Laws of the steps of links: their ends are places, two for each step, and their costs are in bounds.
use Rattle.std.proofs.Common.{◌≡◌, ◌≢◌, ℕ, ◌≤◌, ◌==◌, Bool, true, false, cond, not, ◌&&◌, ◌⊎◌, inl, inr, List, [], length, slice_get, Option, Some, None, refl, sym, ◌∙◌, ap, subst, arith, eq-eqb}
use Rattle.std.proofs.lemmas.Bool.{and_parts, not-true, both_ways}
use Rattle.std.proofs.lemmas.Option.{none-some, same_Some, slice_get_within}
use Rattle.std.specs.Option.{option_map, option_map_or, option_and_then}
use Rattle.ctrl_model.specs.declared.kinds.RouterSeen.{RouterSeen}
use Rattle.ctrl_model.specs.ValueForms.{is_cost, is_link_cost, is_latency}
use Rattle.ctrl_model.specs.Membership.{Among}
use Rattle.ctrl_model.specs.Networks.{link_cost}
use Rattle.ctrl_model.specs.State.{Link}
use Rattle.ctrl_model.specs.ValidState.{each_passes}
use Rattle.ctrl_model.proofs.Members.{by_flat_map, find_among, list_all-among}
use Rattle.ctrl_model.proofs.Tests.{in_bounds}
use Rattle.path_certificate.specs.declared.graph.Step.{Step}
use Rattle.path_certificate.specs.Graphs.{IsStep}
use Rattle.fabric_graph.specs.declared.steps.End.{End}
use Rattle.fabric_graph.specs.FabricRules.{is_fit}
use Rattle.fabric_graph.specs.Routers.{AreRouters}
use Rattle.fabric_graph.specs.Steps.{end_at, link_ends, step_between, two_steps, link_steps, all_steps}
use Rattle.fabric_graph.proofs.EndLaws.{IsEnd, end_is}

-- the ends of a usable link
pub record AreEnds (routers : List RouterSeen) (least : ℕ) (l : Link) (p : End × End) : Type 0 where
  pub first : IsEnd routers least l.a p.0
  pub second : IsEnd routers least l.b p.1

pub ends_are : (routers : List RouterSeen) (least : ℕ) (l : Link) (p : End × End) → link_ends routers least l ≡ Some p → AreEnds routers least l p
ends_are routers least l p e = by l.up (end_at least l.a routers) (end_at least l.b routers) refl refl e
  where
    by : (up : Bool) (x y : Option End) → end_at least l.a routers ≡ x → end_at least l.b routers ≡ y
        → cond up (option_and_then (λ a. option_map (λ b. (a, b)) y) x) None ≡ Some p → AreEnds routers least l p
    by false x y r s e = absurd (none-some p e)
    by true None y r s e = absurd (none-some p e)
    by true (Some a) None r s e = absurd (none-some p e)
    by true (Some a) (Some b) r s e =
        let same : ◌≡◌ {A = End × End} (a, b) p = same_Some (a, b) p e in
        record { first = end_is routers least l.a p.0 (r ∙ ap (λ (q : End × End). Some q.0) same); second = end_is routers least l.b p.1 (s ∙ ap (λ (q : End × End). Some q.1) same) }

-- a step of a link is one of the two between its ends
pub by_link_step : {P : Type 0} (routers : List RouterSeen) (least : ℕ) (x : ℕ × Link) (s : Step) → Among s (link_steps routers least x)
    → ((p : End × End) → link_ends routers least x.1 ≡ Some p → (step_between x.0 (link_cost x.1) p.0 p.1 ≡ s) ⊎ (step_between x.0 (link_cost x.1) p.1 p.0 ≡ s) → P) → P
by_link_step {P} routers least x s m k = by (link_ends routers least x.1) refl m
  where
    by : (o : Option (End × End)) → link_ends routers least x.1 ≡ o → Among s (option_map_or (λ (p : End × End). two_steps x.0 (link_cost x.1) p.0 p.1) o []) → P
    by None e m = absurd m
    by (Some p) e (inl h) = k p e (inl h)
    by (Some p) e (inr (inl h)) = k p e (inr h)
    by (Some p) e (inr (inr h)) = absurd h

-- the costs of a link that may be kept
pub record IsPriced (l : Link) : Type 0 where
  pub apart : l.a ≢ l.b
  pub least : 1 ≤ link_cost l
  pub most : link_cost l ≤ 185535

pub priced : (l : Link) → is_fit l ≡ true → IsPriced l
priced l e =
    let parts = and_parts (not (l.a == l.b)) (is_link_cost l.cost && (is_latency l.latency_a && is_latency l.latency_b)) e in
    let costs = and_parts (is_link_cost l.cost) (is_latency l.latency_a && is_latency l.latency_b) parts.1 in
    let latencies = and_parts (is_latency l.latency_a) (is_latency l.latency_b) costs.1 in
    let cost = in_bounds 1 65535 l.cost costs.0 in
    let a = in_bounds 0 60000 l.latency_a latencies.0 in
    let b = in_bounds 0 60000 l.latency_b latencies.1 in
    record {
      apart = λ s. both_ways (l.a == l.b) (not-true (l.a == l.b) parts.0) (eq-eqb l.a l.b s);
      least = omega arith;
      most = omega arith;
    }

-- the ends of a link stand at two places
pub places_apart : (routers : List RouterSeen) (least : ℕ) (l : Link) (p : End × End) → l.a ≢ l.b → AreEnds routers least l p → p.0.place ≢ p.1.place
places_apart routers least l p apart ends s =
    let same : ends.first.router ≡ ends.second.router =
    same_Some ends.first.router ends.second.router (sym ends.first.stands ∙ ap (slice_get routers) s ∙ ends.second.stands) in
    apart (sym ends.first.number ∙ ap (λ (r : RouterSeen). r.no.0) same ∙ ends.second.number)

entry_most : (routers : List RouterSeen) (least n : ℕ) (e : End) → AreRouters routers → least ≤ 65535 → IsEnd routers least n e → e.entry ≤ 65535
entry_most routers least n e are l i =
    let cost = in_bounds 0 65535 i.router.cost (list_all-among (λ (r : RouterSeen). is_cost r.cost) routers i.router are.costs (find_among (λ r. r.no.0 == n) routers i.router i.found)) in
    let entry = i.entry in
    omega arith

-- a step that may stand in a graph, at a cost within the greatest
pub record IsFair (places : ℕ) (s : Step) : Type 0 where
  pub step : IsStep places s
  pub most : s.cost ≤ 251070

fair_between : (routers : List RouterSeen) (least k n m cost : ℕ) (a b : End) → AreRouters routers → least ≤ 65535 → 1 ≤ cost → cost ≤ 185535
    → IsEnd routers least n a → IsEnd routers least m b → a.place ≢ b.place → IsFair (length routers) (step_between k cost a b)
fair_between routers least k n m cost a b are l low high i j apart =
    let entry = entry_most routers least m b are l j in
    record {
      step = record {
        from = slice_get_within routers a.place i.router i.stands;
        to = slice_get_within routers b.place j.router j.stands;
        apart = apart;
        cost = omega arith;
        small = omega arith;
      };
      most = omega arith;
    }

pub each_fair : (routers : List RouterSeen) (least : ℕ) (links : List (ℕ × Link)) → AreRouters routers → least ≤ 65535 → each_passes is_fit links ≡ true
    → (s : Step) → Among s (all_steps routers least links) → IsFair (length routers) s
each_fair routers least links are l fit s m =
    by_flat_map (link_steps routers least) links s m (λ x in_links in_steps.
    let price = priced x.1 (list_all-among (λ (y : ℕ × Link). is_fit y.1) links x fit in_links) in
    by_link_step routers least x s in_steps (λ p e h.
    let ends = ends_are routers least x.1 p e in
    let apart = places_apart routers least x.1 p price.apart ends in
    by x p price ends apart h))
  where
    by : (x : ℕ × Link) (p : End × End) → IsPriced x.1 → AreEnds routers least x.1 p → p.0.place ≢ p.1.place
        → (step_between x.0 (link_cost x.1) p.0 p.1 ≡ s) ⊎ (step_between x.0 (link_cost x.1) p.1 p.0 ≡ s) → IsFair (length routers) s
    by x p price ends apart (inl h) = subst (IsFair (length routers)) h
        (fair_between routers least x.0 x.1.a x.1.b (link_cost x.1) p.0 p.1 are l price.least price.most ends.first ends.second apart)
    by x p price ends apart (inr h) = subst (IsFair (length routers)) h
        (fair_between routers least x.0 x.1.b x.1.a (link_cost x.1) p.1 p.0 are l price.least price.most ends.second ends.first (λ t. apart (sym t)))

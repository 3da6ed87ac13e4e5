-- Potentials that are supported and that no step improves are the least costs of paths.
use Rattle.std.proofs.Common.{◌≡◌, ℕ, zero, suc, ◌+◌, ◌-◌, ◌*◌, ◌<◌, ◌≤◌, max, true, inl, inr, ⊎_elim, List, [], ◌∷◌, length, subst, arith, eq-eqb}
use Rattle.ctrl_model.specs.Membership.{Among}
use Rattle.ctrl_model.proofs.WalkLaws.{cost_along-le}
use Rattle.ctrl_model.proofs.TightLaws.{tight_cost}
use Rattle.path_certificate.specs.declared.graph.Step.{Step}
use Rattle.ctrl_model.specs.Claims.{is_tight, no_path, reach_over}
use Rattle.path_certificate.specs.Graphs.{GraphSeen, graph_hops, IsGraph, potential, none_improves, cost_of}
use Rattle.path_certificate.proofs.StepLaws.{by_hop, hop_is, hops_cost, path_short}
use Rattle.path_certificate.proofs.LowerBounds.{settled_hop}
use Rattle.path_certificate.proofs.TightChains.{tight_more, tight_path}
use Rattle.path_certificate.proofs.Certificates.{settled_least}
use Rattle.path_search.specs.Supports.{Paid, Supported}
use Rattle.path_search.specs.Searches.{IsLeast, AreFew, greatest_cost}

-- a chain of tight hops from the place
abbrev Chained : GraphSeen → ℕ → List ℕ → ℕ → Type 0
Chained g t p v = (links : List ℕ) × (is_tight (graph_hops g t) (potential p) t v links ≡ true)

-- from each place with a potential there is a chain, by recursion on a bound on the potential
chain_of : (g : GraphSeen) (t : ℕ) (p : List ℕ) → IsGraph g.through g.steps → Supported g t p → none_improves g t p ≡ true
    → (n v : ℕ) → v < length g.through → potential p v < no_path → potential p v ≤ n → Chained g t p v
chain_of g t p graph kept settled zero v place there few =
    ⊎_elim (λ e. ([], eq-eqb v t e))
    (λ (q : Paid g t p v). absurd (
    let cost : 1 ≤ q.hop.1 = (hop_is g t v q.link q.hop graph q.is).cost in
    let enough : q.hop.1 + potential p q.hop.0 ≤ potential p v = q.enough in
    omega arith))
    (kept.paid v place there)
chain_of g t p graph kept settled (suc n) v place there few =
    ⊎_elim (λ e. ([], eq-eqb v t e))
    (λ (q : Paid g t p v).
    let hop = hop_is g t v q.link q.hop graph q.is in
    let cost : 1 ≤ q.hop.1 = hop.cost in
    let enough : q.hop.1 + potential p q.hop.0 ≤ potential p v = q.enough in
    let low : potential p v ≤ reach_over q.hop.1 (potential p q.hop.0) = settled_hop g t p v q.link q.hop settled q.is in
    let rest = chain_of g t p graph kept settled n q.hop.0 hop.to (omega arith) (omega arith) in (
      q.link ∷ rest.0,
      tight_more (graph_hops g t) p t v q.link rest.0 q.hop q.is
          (record { falls = omega arith; there = there }) rest.1,
    ))
    (kept.paid v place there)

pub supported_least : (g : GraphSeen) (t : ℕ) (p : List ℕ) → IsGraph g.through g.steps → Supported g t p
    → none_improves g t p ≡ true → IsLeast g t p
supported_least g t p graph kept settled = record {
  places = kept.places;
  each = λ v place.
      let lower = settled_least g t p graph kept.zero_at_target settled v place in
      record {
        within = kept.within v;
        none = lower.none;
        some = λ there.
            let chain = chain_of g t p graph kept settled (potential p v) v place there (omega arith) in
            let path = tight_path (graph_hops g t) p t (hops_cost g t graph) chain.0 v chain.1 in
            let cost = tight_cost (graph_hops g t) (potential p) t kept.zero_at_target chain.0 v chain.1 in
            (chain.0, path, cost);
        below = lower.below;
      };
}

-- no step costs more than the greatest cost
greatest : (ss : List Step) (s : Step) → Among s ss → s.cost ≤ greatest_cost ss
greatest [] s m = absurd m
greatest (u ∷ ss) s (inl e) = subst (λ x. x.cost ≤ max u.cost (greatest_cost ss)) e (omega arith)
greatest (u ∷ ss) s (inr m) = let rest : s.cost ≤ greatest_cost ss = greatest ss s m in omega arith

-- a path has fewer links than there are places, so a least cost has a bound
pub least_few : (g : GraphSeen) (t : ℕ) (p : List ℕ) → IsGraph g.through g.steps → IsLeast g t p → AreFew g p
least_few g t p graph least = λ v place there.
    let path = (least.each v place).some there in
    let short : length path.0 + 1 ≤ length g.through = path_short g t v path.0 graph place path.1 in
    let most : cost_of g t v path.0 ≤ length path.0 * greatest_cost g.steps =
    cost_along-le (graph_hops g t) (greatest_cost g.steps)
    (λ u l h is. by_hop g t u l h is (λ s m from link c e.
    subst (λ (x : ℕ × ℕ). x.1 ≤ greatest_cost g.steps) e (greatest g.steps s m)))
    path.0 v in
    few (length path.0) (length g.through) (greatest_cost g.steps) (cost_of g t v path.0) (potential p v) short most path.2
  where
    few : (k n m c a : ℕ) → k + 1 ≤ n → c ≤ k * m → c ≡ a → a ≤ (n - 1) * m
    few k n m c a h b e = grind arith

-- Potentials that no step improves are lower bounds of what paths cost.
use Rattle.std.proofs.Common.{◌≡◌, ℕ, ◌+◌, ◌*◌, ◌<◌, ◌≤◌, not, true, List, [], ◌∷◌, length, Some, ◌∙◌, ap, subst, arith, ltb, eqb-true, ltb-false}
use Rattle.std.proofs.lemmas.Bool.{and_from, false_from_ne_true, not-true, both_ways}
use Rattle.ctrl_model.specs.Walks.{goes, cost_along}
use Rattle.ctrl_model.specs.Membership.{Among}
use Rattle.ctrl_model.proofs.Members.{list_all-among}
use Rattle.ctrl_model.proofs.WalkLaws.{by_goes, cost_along-more, cost_along-le}
use Rattle.path_certificate.specs.declared.graph.Step.{Step}
use Rattle.ctrl_model.specs.Claims.{no_path, reach_over}
use Rattle.path_certificate.specs.Graphs.{GraphSeen, counts, graph_hops, IsGraph, potential, improves, none_improves, IsPath, cost_of}
use Rattle.path_certificate.proofs.StepLaws.{by_hop, hop_is, path_short}

-- where no step improves a potential, a counting step's start is at most what it reaches
pub settled_step : (g : GraphSeen) (t : ℕ) (p : List ℕ) (s : Step) → none_improves g t p ≡ true → Among s g.steps
    → counts g.through t s ≡ true
    → potential p s.from ≤ reach_over s.cost (potential p s.to)
settled_step g t p s settled m c =
    ltb-false (reach_over s.cost (potential p s.to)) (potential p s.from)
    (false_from_ne_true (ltb (reach_over s.cost (potential p s.to)) (potential p s.from)) (λ e.
    both_ways (improves g.through t p s) (not-true (improves g.through t p s)
    (list_all-among (λ u. not (improves g.through t p u)) g.steps s settled m))
    (and_from (counts g.through t s) (ltb (reach_over s.cost (potential p s.to)) (potential p s.from)) c e)))

-- and so is a hop's
pub settled_hop : (g : GraphSeen) (t : ℕ) (p : List ℕ) (v l : ℕ) (h : ℕ × ℕ) → none_improves g t p ≡ true
    → graph_hops g t v l ≡ Some h → potential p v ≤ reach_over h.1 (potential p h.0)
settled_hop g t p v l h settled is = by_hop g t v l h is (λ s m from link c e.
    subst (λ (x : ℕ × ℕ). potential p v ≤ reach_over x.1 (potential p x.0)) e
    (subst (λ x. potential p x ≤ reach_over s.cost (potential p s.to)) from (settled_step g t p s settled m c)))

-- then no walk costs less than its first place's potential
pub below_walk : (g : GraphSeen) (t : ℕ) (p : List ℕ) → none_improves g t p ≡ true → potential p t ≡ 0
    → (ls seen : List ℕ) (v : ℕ)
    → goes (graph_hops g t) t seen v ls ≡ true → potential p v ≤ cost_along (graph_hops g t) v ls
below_walk g t p settled zero_at [] seen v walk =
    let here : potential p v ≡ 0 = ap (potential p) (eqb-true v t walk) ∙ zero_at in omega arith
below_walk g t p settled zero_at (l ∷ ls) seen v walk = by_goes (graph_hops g t) t seen v l ls walk (λ h is new rest.
    let cost = cost_along-more (graph_hops g t) v l ls h is in
    let on = below_walk g t p settled zero_at ls (h.0 ∷ seen) h.0 rest in
    rw cost (further (potential p v) h.1 (potential p h.0) (cost_along (graph_hops g t) h.0 ls)
    (settled_hop g t p v l h settled is) on))
  where
    further : (a c b d : ℕ) → a ≤ reach_over c b → b ≤ d → a ≤ c + d
    further a c b d h k = omega arith

-- a path costs less than what stands for no path
pub path_cost_few : (g : GraphSeen) (t v : ℕ) (ls : List ℕ) → IsGraph g.through g.steps → v < length g.through
    → IsPath g t v ls → cost_of g t v ls < no_path
path_cost_few g t v ls graph place path =
    few (length ls) (length g.through) (cost_of g t v ls)
    (path_short g t v ls graph place path)
    graph.few
    (cost_along-le (graph_hops g t) 4294967296 (λ u l h is. let hop = hop_is g t u l h graph is in omega (arith, hop.small)) ls v)
  where
    few : (k n c : ℕ) → k + 1 ≤ n → n ≤ 256 → c ≤ k * 4294967296 → c < no_path
    few k n c a b h = omega arith

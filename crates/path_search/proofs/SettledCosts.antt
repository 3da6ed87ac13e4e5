-- Least costs of paths are settled: the target's is 0, and no step improves one.
use Rattle.std.proofs.Common.{◌≡◌, ℕ, ◌+◌, ◌<◌, ◌≤◌, ◌⊎◌, ◌==◌, ◌||◌, Bool, not, true, false, inl, inr, ⊎_elim, List, [], ◌∷◌, length, refl, arith, ltb, ltb-true, eqb-true, eq-eqb, ne_eqb}
use Rattle.std.proofs.lemmas.Bool.{and_parts, or_from, cases_lt, not_from_false, false_from_ne_true, false≢true}
use Rattle.ctrl_model.specs.Walks.{is_among, goes}
use Rattle.ctrl_model.specs.Membership.{Among}
use Rattle.ctrl_model.proofs.Members.{each_among, list_all-from_among}
use Rattle.ctrl_model.proofs.WalkLaws.{goes_more, cost_along-more, around, Shorter}
use Rattle.path_certificate.specs.declared.graph.Step.{Step}
use Rattle.ctrl_model.specs.Claims.{no_path, reach_over}
use Rattle.path_certificate.specs.Graphs.{GraphSeen, counts, graph_hops, IsStep, IsGraph, potential, improves, none_improves, IsPath, cost_of}
use Rattle.path_certificate.proofs.StepLaws.{hop_of}
use Rattle.path_search.specs.Searches.{IsLeast}

pub least_zero : (g : GraphSeen) (t : ℕ) (p : List ℕ) → t < length g.through → IsLeast g t p → potential p t ≡ 0
least_zero g t p place least =
    let low : potential p t ≤ 0 = (least.each t place).below [] (eq-eqb t t refl) in omega arith

-- the path over a step, where the path on does not come back to the step's start
over : (g : GraphSeen) (t : ℕ) (p : List ℕ) (s : Step) (ls : List ℕ) → IsGraph g.through g.steps → IsLeast g t p
    → Among s g.steps → counts g.through t s ≡ true
    → cost_of g t s.to ls ≡ potential p s.to → goes (graph_hops g t) t (s.to ∷ s.from ∷ []) s.to ls ≡ true
    → potential p s.from ≤ s.cost + potential p s.to
over g t p s ls graph least m c cost walk =
    let step = each_among (IsStep (length g.through)) g.steps s graph.each m in
    let is = hop_of g t s graph.ordered m c in
    let new : is_among s.to (s.from ∷ []) ≡ false = or_from (s.from == s.to) false (ne_eqb s.from s.to step.apart) refl in
    let path : IsPath g t s.from (s.link ∷ ls) =
    goes_more (graph_hops g t) t (s.from ∷ []) s.from s.link ls (s.to, s.cost) is new walk in
    let low : potential p s.from ≤ cost_of g t s.from (s.link ∷ ls) = (least.each s.from step.from).below (s.link ∷ ls) path in
    let price : cost_of g t s.from (s.link ∷ ls) ≡ s.cost + cost_of g t s.to ls =
    cost_along-more (graph_hops g t) s.from s.link ls (s.to, s.cost) is in
    omega (arith, low, price, cost)

least_step : (g : GraphSeen) (t : ℕ) (p : List ℕ) (s : Step) → IsGraph g.through g.steps → IsLeast g t p → Among s g.steps
    → counts g.through t s ≡ true
    → potential p s.from ≤ reach_over s.cost (potential p s.to)
least_step g t p s graph least m c =
    let step = each_among (IsStep (length g.through)) g.steps s graph.each m in
    let top : potential p s.from ≤ no_path = (least.each s.from step.from).within in
    ⊎_elim
    (λ (there : potential p s.to < no_path).
    let path = (least.each s.to step.to).some there in
    let low : potential p s.from ≤ s.cost + potential p s.to =
    ⊎_elim (λ walk. over g t p s path.0 graph least m c path.2 walk)
    (λ (back : Shorter (graph_hops g t) t s.from (cost_of g t s.to path.0)).
    let less : potential p s.from ≤ cost_of g t s.from back.0 = (least.each s.from step.from).below back.0 back.1 in
    omega (arith, less, back.2, path.2))
    (around (graph_hops g t) t s.from path.0 s.to (s.to ∷ []) (s.to ∷ s.from ∷ []) (added s.to s.from) path.1) in
    omega arith)
    (λ (past : no_path ≤ potential p s.to). omega arith)
    (cases_lt (potential p s.to) no_path)
  where
    added : (w v y : ℕ) → is_among y (w ∷ v ∷ []) ≡ true → (v ≡ y) ⊎ (is_among y (w ∷ []) ≡ true)
    added w v y e = apart (w == y) (v == y) e (eqb-true v y)
      where
        apart : (a b : Bool) → (a || (b || false)) ≡ true → (b ≡ true → v ≡ y) → (v ≡ y) ⊎ ((a || false) ≡ true)
        apart true b e k = inr refl
        apart false true e k = inl (k refl)
        apart false false e k = absurd (false≢true e)

pub least_settled : (g : GraphSeen) (t : ℕ) (p : List ℕ) → IsGraph g.through g.steps → IsLeast g t p
    → none_improves g t p ≡ true
least_settled g t p graph least = list_all-from_among (λ s. not (improves g.through t p s)) g.steps (λ s m.
    not_from_false (improves g.through t p s) (false_from_ne_true (improves g.through t p s) (λ e.
    let both = and_parts (counts g.through t s) (ltb (reach_over s.cost (potential p s.to)) (potential p s.from)) e in
    let less : reach_over s.cost (potential p s.to) < potential p s.from =
    ltb-true (reach_over s.cost (potential p s.to)) (potential p s.from) both.1 in
    let low : potential p s.from ≤ reach_over s.cost (potential p s.to) = least_step g t p s graph least m both.0 in
    omega arith)))

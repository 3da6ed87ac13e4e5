-- The chain that takes at each place the tight hop over the least link comes first among the least paths.
use Rattle.std.proofs.Common.{◌≡◌, ℕ, ◌+◌, ◌<◌, ◌≤◌, ◌⊎◌, ◌==◌, ◌&&◌, ◌||◌, Bool, cond, true, false, inl, inr, ⊎_elim, List, [], ◌∷◌, ◌++◌, length, Some, None, refl, sym, ◌∙◌, ap, subst, arith, eqb, ltb, eqb-true, eq-eqb, ltb-true, Ordering, nat_cmp, is_lt, append_assoc, append-nil}
use Rattle.std.proofs.lemmas.Bool.{and_parts, and_from, cases_order, false≢true, lt-ltb}
use Rattle.std.proofs.lemmas.Bool.Decides.{nat_tests}
use Rattle.std.proofs.lemmas.Option.{same_Some}
use Rattle.std.specs.Ordering.{ordering_then}
use Rattle.std.specs.Cmp.Lexicographic.{slice_cmp}
use Rattle.std.specs.List.{list_all, find}
use Rattle.ctrl_model.specs.Walks.{Hops, goes, cost_along}
use Rattle.ctrl_model.specs.Membership.{Among}
use Rattle.ctrl_model.proofs.Members.{list_all-among, find_passes, find_among}
use Rattle.ctrl_model.proofs.WalkLaws.{by_goes, cost_along-more}
use Rattle.ctrl_model.proofs.TightLaws.{tight_cost}
use Rattle.path_certificate.specs.declared.graph.Step.{Step}
use Rattle.ctrl_model.specs.Claims.{is_tight, no_path, reach_over}
use Rattle.path_certificate.specs.Graphs.{GraphSeen, counts, graph_hops, before, is_ordered, IsGraph, potential, none_improves}
use Rattle.path_certificate.proofs.StepLaws.{by_hop, hop_of, hop_is, hops_cost}
use Rattle.path_certificate.proofs.LowerBounds.{settled_hop, below_walk}
use Rattle.path_certificate.proofs.TightChains.{IsTight, by_tight, tight_more, tight_path}
use Rattle.path_search.specs.Supports.{falls_from}
use Rattle.path_search.specs.Searches.{IsLeast, IsFirst}
use Rattle.path_search.proofs.SettledCosts.{least_zero, least_settled}

-- the hop is tight, and no tight hop from its place goes over a lesser link
pub record IsFirstHop (hop : Hops) (p : List ℕ) (v l : ℕ) (h : ℕ × ℕ) : Type 0 where
  pub is : hop v l ≡ Some h
  pub falls : IsTight p v h
  pub first : (m : ℕ) (k : ℕ × ℕ) → m < l → hop v m ≡ Some k → IsTight p v k → ⊥

-- a chain of such hops to the target
abbrev pub FirstChain : Hops → List ℕ → ℕ → ℕ → List ℕ → Type 0
FirstChain hop p t v [] = v ≡ t
FirstChain hop p t v (l ∷ ls) = (h : ℕ × ℕ) × IsFirstHop hop p v l h × FirstChain hop p t h.0 ls

-- ---- such a chain comes first

first_tight : (hop : Hops) (p : List ℕ) (t : ℕ) (ls : List ℕ) (v : ℕ) → FirstChain hop p t v ls → is_tight hop (potential p) t v ls ≡ true
first_tight hop p t [] v e = eq-eqb v t e
first_tight hop p t (l ∷ ls) v c = tight_more hop p t v l ls c.0 c.1.is c.1.falls (first_tight hop p t ls c.0.0 c.2)

same_link : (m l : ℕ) (o : Ordering) → m ≡ l → is_lt (ordering_then (nat_cmp m l) o) ≡ is_lt o
same_link m l o e = grind (arith, nat_tests)

later_link : (m l : ℕ) (o : Ordering) → l < m → is_lt (ordering_then (nat_cmp m l) o) ≡ false
later_link m l o h = grind (arith, nat_tests)

chain_first : (hop : Hops) (p : List ℕ) (t : ℕ) → potential p t ≡ 0 → ((v l : ℕ) (h : ℕ × ℕ) → hop v l ≡ Some h → 1 ≤ h.1)
    → (ls other : List ℕ) (v : ℕ) → FirstChain hop p t v ls → is_tight hop (potential p) t v other ≡ true
    → is_lt (slice_cmp nat_cmp other ls) ≡ false
chain_first hop p t zero_at costs [] [] v c e = refl
chain_first hop p t zero_at costs [] (m ∷ ms) v c e = refl
chain_first hop p t zero_at costs (l ∷ ls) [] v c e = absurd (
    let cost : 1 ≤ c.0.1 = costs v l c.0 c.1.is in
    let falls : potential p v ≡ c.0.1 + potential p c.0.0 = c.1.falls.falls in
    let here : potential p v ≡ 0 = ap (potential p) (eqb-true v t e) ∙ zero_at in
    omega arith)
chain_first hop p t zero_at costs (l ∷ ls) (m ∷ ms) v c e = by_tight hop p t v m ms e (λ k is falls rest.
    ⊎_elim
    (λ (same : m ≡ l).
    let one : k ≡ c.0 = same_Some k c.0 (sym is ∙ ap (hop v) same ∙ c.1.is) in
    same_link m l (slice_cmp nat_cmp ms ls) same ∙ chain_first hop p t zero_at costs ls ms c.0.0 c.2
    (subst (λ (h : ℕ × ℕ). is_tight hop (potential p) t h.0 ms ≡ true) one rest))
    (λ order. ⊎_elim (λ (less : m < l). absurd (c.1.first m k less is falls))
    (λ (more : l < m). later_link m l (slice_cmp nat_cmp ms ls) more) order)
    (cases_order m l))

-- ---- a least path is a chain of tight hops

least_tight : (g : GraphSeen) (t : ℕ) (p : List ℕ) → none_improves g t p ≡ true → potential p t ≡ 0
    → (ls seen : List ℕ) (v : ℕ)
    → goes (graph_hops g t) t seen v ls ≡ true → cost_along (graph_hops g t) v ls ≡ potential p v → potential p v < no_path
    → is_tight (graph_hops g t) (potential p) t v ls ≡ true
least_tight g t p settled zero_at [] seen v walk cost there = walk
least_tight g t p settled zero_at (l ∷ ls) seen v walk cost there = by_goes (graph_hops g t) t seen v l ls walk (λ h is new rest.
    let price : cost_along (graph_hops g t) v (l ∷ ls) ≡ h.1 + cost_along (graph_hops g t) h.0 ls =
    cost_along-more (graph_hops g t) v l ls h is in
    let low : potential p h.0 ≤ cost_along (graph_hops g t) h.0 ls = below_walk g t p settled zero_at ls (h.0 ∷ seen) h.0 rest in
    let step : potential p v ≤ reach_over h.1 (potential p h.0) = settled_hop g t p v l h settled is in
    let sums = exact (potential p v) h.1 (potential p h.0) (cost_along (graph_hops g t) h.0 ls) (sym price ∙ cost) low step there in
    tight_more (graph_hops g t) p t v l ls h is (record { falls = sums.0; there = there })
    (least_tight g t p settled zero_at ls (h.0 ∷ seen) h.0 rest sums.1 sums.2))
  where
    exact : (a c b d : ℕ) → c + d ≡ a → b ≤ d → a ≤ reach_over c b → a < no_path → (a ≡ c + b) × (d ≡ b) × (b < no_path)
    exact a c b d e l s t = (omega arith, omega arith, omega arith)

pub first_path : (g : GraphSeen) (t : ℕ) (p : List ℕ) (v : ℕ) (ls : List ℕ) → IsGraph g.through g.steps
    → t < length g.through → potential p v < no_path → IsLeast g t p
    → FirstChain (graph_hops g t) p t v ls → IsFirst g t p v ls
first_path g t p v ls graph target there least chain =
    let costs = hops_cost g t graph in
    let zero_at = least_zero g t p target least in
    let settled = least_settled g t p graph least in
    let falls = first_tight (graph_hops g t) p t ls v chain in
    record {
      path_is = tight_path (graph_hops g t) p t costs ls v falls;
      cost_is = tight_cost (graph_hops g t) (potential p) t zero_at ls v falls;
      first = λ other path cost. chain_first (graph_hops g t) p t zero_at costs ls other v chain
          (least_tight g t p settled zero_at other (v ∷ []) v path cost there);
    }

-- ---- the first tight step in the order of links

-- of two steps that pass, the one that a search finds stands before the other
found_first : (q : Step → Bool) (xs : List Step) (s u : Step) → is_ordered xs ≡ true → find q xs ≡ Some s → Among u xs
    → q u ≡ true → (s ≡ u) ⊎ (before s u ≡ true)
found_first q [] s u o f m e = absurd m
found_first q (x ∷ xs) s u o f m e =
    let parts = and_parts (list_all (before x) xs) (is_ordered xs) o in
    apart (q x) refl f m (λ g n. found_first q xs s u parts.1 g n e) (λ n. list_all-among (before x) xs u parts.0 n)
  where
    apart : (b : Bool) → q x ≡ b → cond b (Some x) (find q xs) ≡ Some s → (x ≡ u) ⊎ Among u xs
        → (find q xs ≡ Some s → Among u xs → (s ≡ u) ⊎ (before s u ≡ true)) → (Among u xs → before x u ≡ true)
        → (s ≡ u) ⊎ (before s u ≡ true)
    apart true b f (inl x_is) k j = inl (sym (same_Some x s f) ∙ x_is)
    apart true b f (inr n) k j = inr (subst (λ y. before y u ≡ true) (same_Some x s f) (j n))
    apart false b f (inl x_is) k j = absurd (false≢true (sym b ∙ ap q x_is ∙ e))
    apart false b f (inr n) k j = k f n

-- a search finds something where something passes
found_some : (q : Step → Bool) (xs : List Step) (u : Step) → Among u xs → q u ≡ true → find q xs ≡ None → ⊥
found_some q [] u m e f = absurd m
found_some q (x ∷ xs) u m e f = apart (q x) refl f m (λ n. found_some q xs u n e)
  where
    apart : (b : Bool) → q x ≡ b → cond b (Some x) (find q xs) ≡ None → (x ≡ u) ⊎ Among u xs
        → (Among u xs → find q xs ≡ None → ⊥) → ⊥
    apart true b f m k = absurd (cc)
    apart false b f (inl x_is) k = false≢true (sym b ∙ ap q x_is ∙ e)
    apart false b f (inr n) k = k n f

-- the order tells links of one place
not_before : (a b m l : ℕ) → a ≡ b → m < l → (ltb a b || (eqb a b && ltb l m)) ≡ true → ⊥
not_before a b m l e h t = grind (arith, nat_tests)

-- what it says that a step falls from a place
pub record Falls (g : GraphSeen) (t : ℕ) (p : List ℕ) (v : ℕ) (s : Step) : Type 0 where
  pub from : s.from ≡ v
  pub counted : counts g.through t s ≡ true
  pub falls : IsTight p v (s.to, s.cost)

Falls-from_test : (g : GraphSeen) (t : ℕ) (p : List ℕ) (v : ℕ) (s : Step) → falls_from g.through t p v s ≡ true
    → Falls g t p v s
Falls-from_test g t p v s e =
    let outer = and_parts ((s.from == v) && counts g.through t s && falls) there e in
    let middle = and_parts ((s.from == v) && counts g.through t s) falls outer.0 in
    let inner = and_parts (s.from == v) (counts g.through t s) middle.0 in
    let from = eqb-true s.from v inner.0 in
    let tight : IsTight p s.from (s.to, s.cost) = record {
      falls = eqb-true (potential p s.from) (s.cost + potential p s.to) middle.1;
      there = ltb-true (potential p s.from) no_path outer.1;
    } in
    record { from = from; counted = inner.1; falls = subst (λ x. IsTight p x (s.to, s.cost)) from tight }
  where
    falls : Bool
    falls = potential p s.from == (s.cost + potential p s.to)

    there : Bool
    there = ltb (potential p s.from) no_path

-- a tight hop is a step that falls from its place
falls_of : (g : GraphSeen) (t : ℕ) (p : List ℕ) (v : ℕ) (s : Step) → s.from ≡ v → counts g.through t s ≡ true
    → IsTight p v (s.to, s.cost) → falls_from g.through t p v s ≡ true
falls_of g t p v s from c falls =
    let tight : IsTight p s.from (s.to, s.cost) = subst (λ x. IsTight p x (s.to, s.cost)) (sym from) falls in
    and_from ((s.from == v) && counts g.through t s && (potential p s.from == (s.cost + potential p s.to)))
    (ltb (potential p s.from) no_path)
    (and_from ((s.from == v) && counts g.through t s) (potential p s.from == (s.cost + potential p s.to))
    (and_from (s.from == v) (counts g.through t s) (eq-eqb s.from v from) c)
    (eq-eqb (potential p s.from) (s.cost + potential p s.to) tight.falls))
    (lt-ltb (potential p s.from) no_path tight.there)

-- the first step that falls from a place is a first hop
pub first_hop : (g : GraphSeen) (t : ℕ) (p : List ℕ) (v : ℕ) (s : Step) → IsGraph g.through g.steps
    → find (falls_from g.through t p v) g.steps ≡ Some s
    → IsFirstHop (graph_hops g t) p v s.link (s.to, s.cost)
first_hop g t p v s graph found =
    let this = Falls-from_test g t p v s (find_passes (falls_from g.through t p v) g.steps s found) in
    let among = find_among (falls_from g.through t p v) g.steps s found in
    record {
      is = subst (λ x. graph_hops g t x s.link ≡ Some (s.to, s.cost)) this.from (hop_of g t s graph.ordered among this.counted);
      falls = this.falls;
      first = λ m k less is falls. by_hop g t v m k is (λ u among_u from link c e.
          let passes = falls_of g t p v u from c (subst (λ (x : ℕ × ℕ). IsTight p v x) (sym e) falls) in
          ⊎_elim (λ (same : s ≡ u). let one : s.link ≡ m = ap (λ (x : Step). x.link) same ∙ link in omega arith)
          (λ (order : before s u ≡ true). not_before s.from u.from u.link s.link (this.from ∙ sym from) (rw link less) order)
          (found_first (falls_from g.through t p v) g.steps s u graph.ordered found among_u passes));
    }

-- from a place with a potential, other than the target, some step falls
pub not_stuck : (g : GraphSeen) (t : ℕ) (p : List ℕ) (v : ℕ) → IsGraph g.through g.steps → t < length g.through
    → IsLeast g t p → v < length g.through → potential p v < no_path → (v ≡ t → ⊥)
    → find (falls_from g.through t p v) g.steps ≡ None → ⊥
not_stuck g t p v graph target least place there apart none =
    let path = (least.each v place).some there in
    let settled = least_settled g t p graph least in
    let zero_at = least_zero g t p target least in
    let chain = least_tight g t p settled zero_at path.0 (v ∷ []) v path.1 path.2 there in
    stuck path.0 chain
  where
    stuck : (ls : List ℕ) → is_tight (graph_hops g t) (potential p) t v ls ≡ true → ⊥
    stuck [] e = apart (eqb-true v t e)
    stuck (l ∷ ls) e = by_tight (graph_hops g t) p t v l ls e (λ h is falls rest. by_hop g t v l h is (λ s m from link c s_is.
        found_some (falls_from g.through t p v) g.steps s m
        (falls_of g t p v s from c (subst (λ (x : ℕ × ℕ). IsTight p v x) (sym s_is) falls)) none))

-- the walk goes on: the chain grows by the step's link, and the potential falls
pub chain_more : (hop : Hops) (p : List ℕ) (t from v l : ℕ) (h : ℕ × ℕ) (links : List ℕ) → IsFirstHop hop p v l h
    → ((rest : List ℕ) → FirstChain hop p t v rest → FirstChain hop p t from (links ++ rest)) → (rest : List ℕ)
    → FirstChain hop p t h.0 rest → FirstChain hop p t from ((links ++ l ∷ []) ++ rest)
chain_more hop p t from v l h links first told rest chain =
    subst (λ ls. FirstChain hop p t from ls) (sym (append_assoc links (l ∷ []) rest)) (told (l ∷ rest) (h, first, chain))

-- what the step that is found says of the place that it leads to
pub record IsNext (g : GraphSeen) (p : List ℕ) (v : ℕ) (s : Step) : Type 0 where
  pub place : s.to < length g.through
  pub less : potential p s.to < potential p v
  pub there : potential p s.to < no_path

pub next_step : (g : GraphSeen) (t : ℕ) (p : List ℕ) (v : ℕ) (s : Step) → IsGraph g.through g.steps
    → IsFirstHop (graph_hops g t) p v s.link (s.to, s.cost) → IsNext g p v s
next_step g t p v s graph first =
    let hop = hop_is g t v s.link (s.to, s.cost) graph first.is in
    let cost : 1 ≤ s.cost = hop.cost in
    let falls : potential p v ≡ s.cost + potential p s.to = first.falls.falls in
    let there : potential p v < no_path = first.falls.there in
    record { place = hop.to; less = omega arith; there = omega arith }

-- a chain that has come to the target is whole
pub chain_whole : (hop : Hops) (p : List ℕ) (t from v : ℕ) (links : List ℕ) → v ≡ t
    → ((rest : List ℕ) → FirstChain hop p t v rest → FirstChain hop p t from (links ++ rest)) → FirstChain hop p t from links
chain_whole hop p t from v links e told = subst (λ ls. FirstChain hop p t from ls) (append-nil links) (told [] e)

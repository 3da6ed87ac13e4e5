-- What a hop of a graph says of its steps, and a step of the hops.
use Rattle.std.proofs.Common.{◌≡◌, ℕ, ◌+◌, ◌<◌, ◌≤◌, ◌^◌, ◌==◌, ◌&&◌, ◌||◌, true, inl, inr, List, [], ◌∷◌, length, get_or, Some, None, refl, sym, ◌∙◌, ap, subst, arith, eqb, ltb, eqb-true, eq-eqb}
use Rattle.std.proofs.lemmas.Bool.{and_parts, and_from, cond-true, cond-false, false_from_ne_true}
use Rattle.std.proofs.lemmas.Bool.Decides.{nat_tests}
use Rattle.std.proofs.lemmas.Option.{option_and_then_some, cond_some}
use Rattle.std.specs.Option.{option_and_then}
use Rattle.std.specs.List.{list_all, find, AllByRecursion}
use Rattle.ctrl_model.specs.Membership.{Among}
use Rattle.ctrl_model.proofs.Members.{Among-get_or, list_all-among, each_among, find_passes, find_among, upto, length-upto, Among-upto}
use Rattle.ctrl_model.proofs.WalkLaws.{StaysAmong, length-path}
use Rattle.path_certificate.specs.declared.graph.Step.{Step}
use Rattle.path_certificate.specs.Graphs.{GraphSeen, leaves, counts, taken, graph_hops, IsStep, before, is_ordered, IsGraph, IsPath}

-- a hop is a counting step of the graph
pub by_hop : {P : Type 0} (g : GraphSeen) (t v l : ℕ) (h : ℕ × ℕ) → graph_hops g t v l ≡ Some h
    → ((s : Step) → Among s g.steps → s.from ≡ v → s.link ≡ l → counts g.through t s ≡ true → (s.to, s.cost) ≡ h → P) → P
by_hop g t v l h is k = option_and_then_some (taken g.through t) (find (leaves v l) g.steps) h is (λ s found new.
    let both = and_parts (s.from == v) (s.link == l) (find_passes (leaves v l) g.steps s found) in
    let c = cond_some (counts g.through t s) (s.to, s.cost) h new in
    k s (find_among (leaves v l) g.steps s found) (eqb-true s.from v both.0) (eqb-true s.link l both.1) c.0 c.1)

-- no step stands before one with its place and link
apart_numbers : (a b c d : ℕ) → (ltb a b || (eqb a b && ltb c d)) ≡ true → a ≡ b → c ≡ d → ⊥
apart_numbers a b c d h e f = grind (arith, nat_tests)

pub before_apart : (s u : Step) → before s u ≡ true → leaves u.from u.link s ≡ true → ⊥
before_apart s u h e =
    let both = and_parts (s.from == u.from) (s.link == u.link) e in
    apart_numbers s.from u.from s.link u.link h (eqb-true s.from u.from both.0) (eqb-true s.link u.link both.1)

-- so in the order each step is the one that a search for its place and link finds
pub find_itself : (xs : List Step) (s : Step) → is_ordered xs ≡ true → Among s xs → find (leaves s.from s.link) xs ≡ Some s
find_itself [] s o m = absurd m
find_itself (x ∷ xs) s o (inl e) =
    cond-true (leaves s.from s.link x) (Some x) (find (leaves s.from s.link) xs)
    (subst (λ y. leaves s.from s.link y ≡ true) (sym e)
    (and_from (s.from == s.from) (s.link == s.link) (eq-eqb s.from s.from refl) (eq-eqb s.link s.link refl)))
    ∙ ap Some e
find_itself (x ∷ xs) s o (inr m) =
    let parts = and_parts (list_all (before x) xs) (is_ordered xs) o in
    cond-false (leaves s.from s.link x) (Some x) (find (leaves s.from s.link) xs)
    (false_from_ne_true (leaves s.from s.link x) (before_apart x s (list_all-among (before x) xs s parts.0 m)))
    ∙ find_itself xs s parts.1 m

-- and so a counting step is a hop
pub hop_of : (g : GraphSeen) (t : ℕ) (s : Step) → is_ordered g.steps ≡ true → Among s g.steps → counts g.through t s ≡ true
    → graph_hops g t s.from s.link ≡ Some (s.to, s.cost)
hop_of g t s o m c =
    ap (option_and_then (taken g.through t)) (find_itself g.steps s o m) ∙ cond-true (counts g.through t s)
    (Some (s.to, s.cost)) None c

-- a hop's end is a place, another than its start, and its cost is in its bounds
pub record IsHop (places v : ℕ) (h : ℕ × ℕ) : Type 0 where
  pub from : v < places
  pub to : h.0 < places
  pub cost : 1 ≤ h.1
  pub small : h.1 < 2 ^ 32

pub hop_is : (g : GraphSeen) (t v l : ℕ) (h : ℕ × ℕ) → IsGraph g.through g.steps → graph_hops g t v l ≡ Some h
    → IsHop (length g.through) v h
hop_is g t v l h graph is = by_hop g t v l h is (λ s m from link c e.
    let step = each_among (IsStep (length g.through)) g.steps s graph.each m in
    let itself : IsHop (length g.through) s.from (s.to, s.cost) =
    record { from = step.from; to = step.to; cost = step.cost; small = step.small } in
    subst (λ x. IsHop (length g.through) v x) e (subst (λ x. IsHop (length g.through) x (s.to, s.cost)) from itself))

pub hops_stay : (g : GraphSeen) (t : ℕ) → IsGraph g.through g.steps → StaysAmong (graph_hops g t) (upto (length g.through))
hops_stay g t graph = λ v l h is. Among-upto (length g.through) h.0 (hop_is g t v l h graph is).to

pub hops_cost : (g : GraphSeen) (t : ℕ) → IsGraph g.through g.steps → (v l : ℕ) (h : ℕ × ℕ) → graph_hops g t v l ≡ Some h → 1 ≤ h.1
hops_cost g t graph = λ v l h is. (hop_is g t v l h graph is).cost

-- a path has fewer links than there are places
pub path_short : (g : GraphSeen) (t v : ℕ) (ls : List ℕ) → IsGraph g.through g.steps → v < length g.through → IsPath g t v ls
    → length ls + 1 ≤ length g.through
path_short g t v ls graph place path =
    let names = upto (length g.through) in
    subst (λ n. length ls + 1 ≤ n) (length-upto (length g.through))
    (length-path (graph_hops g t) t names (hops_stay g t graph) ls v (Among-upto (length g.through) v place) path)

-- ---- a step of the list

pub step_at : (places : ℕ) (xs : List Step) (i : ℕ) (d : Step) → AllByRecursion (IsStep places) xs → i < length xs
    → IsStep places (get_or xs i d)
step_at places xs i d each h = each_among (IsStep places) xs (get_or xs i d) each (Among-get_or xs i d h)

-- the step that a search finds
pub step_found : (places v l : ℕ) (xs ys : List Step) (s : Step) → AllByRecursion (IsStep places) ys → xs ≡ ys
    → Some s ≡ find (leaves v l) xs → IsStep places s
step_found places v l xs ys s each same e =
    each_among (IsStep places) ys s each (subst (λ zs. Among s zs) same (find_among (leaves v l) xs s (sym e)))

pub found_from : (v l : ℕ) (xs : List Step) (s : Step) → Some s ≡ find (leaves v l) xs → s.from ≡ v
found_from v l xs s e = eqb-true s.from v (and_parts (s.from == v) (s.link == l) (find_passes (leaves v l) xs s (sym e))).0

-- the ends of a step of the list are within a list of as many elements as there are places
pub start_within : (places n : ℕ) (xs ys : List Step) (i : ℕ) (d : Step) → AllByRecursion (IsStep places) ys → xs ≡ ys
    → n ≡ places → i < length xs → (get_or xs i d).from < n
start_within places n xs ys i d each same few h =
    subst (λ k. (get_or xs i d).from < k) (sym few)
    (step_at places xs i d (subst (λ zs. AllByRecursion (IsStep places) zs) (sym same) each) h).from

pub end_within : (places n : ℕ) (xs ys : List Step) (i : ℕ) (d : Step) → AllByRecursion (IsStep places) ys → xs ≡ ys
    → n ≡ places → i < length xs → (get_or xs i d).to < n
end_within places n xs ys i d each same few h =
    subst (λ k. (get_or xs i d).to < k) (sym few) (step_at places xs i d
    (subst (λ zs. AllByRecursion (IsStep places) zs) (sym same) each) h).to

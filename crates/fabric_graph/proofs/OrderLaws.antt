-- Laws of the order of the steps: they stand by the place that they leave, and at one place by their links.
use Rattle.std.proofs.Common.{◌≡◌, ◌≢◌, ℕ, zero, suc, ◌+◌, ◌≤◌, ◌<◌, ◌==◌, nat_lt, Bool, true, false, cond, ◌&&◌, ◌⊎◌, inl, inr, List, [], ◌∷◌, ◌++◌, Option, Some, None, refl, sym, ◌∙◌, ap, arith, eq-eqb, eqb-true}
use Rattle.std.proofs.lemmas.Bool.{and_parts, and_from, or_left, or_right, lt-ltb}
use Rattle.std.proofs.lemmas.List.Elements.{filter-append}
use Rattle.std.proofs.lemmas.List.Folds.{list_all-append}
use Rattle.std.specs.List.{list_all}
use Rattle.std.specs.Option.{option_map_or}
use Rattle.ctrl_model.specs.declared.kinds.RouterSeen.{RouterSeen}
use Rattle.ctrl_model.specs.Membership.{Among}
use Rattle.ctrl_model.specs.Networks.{link_cost}
use Rattle.ctrl_model.specs.Numbered.{Between}
use Rattle.ctrl_model.specs.State.{Link}
use Rattle.ctrl_model.specs.ValidState.{each_passes}
use Rattle.ctrl_model.proofs.Members.{by_append, by_filter, list_all-from_among}
use Rattle.path_certificate.specs.declared.graph.Step.{Step}
use Rattle.path_certificate.specs.Graphs.{before, is_ordered}
use Rattle.fabric_graph.specs.declared.steps.End.{End}
use Rattle.fabric_graph.specs.FabricRules.{is_fit}
use Rattle.fabric_graph.specs.Steps.{link_ends, step_between, two_steps, link_steps, all_steps, leaving, by_place}
use Rattle.fabric_graph.proofs.FairLaws.{by_link_step, ends_are, places_apart, priced}

ordered-append : (xs ys : List Step) → is_ordered xs ≡ true → is_ordered ys ≡ true → ((s u : Step) → Among s xs → Among u ys → before s u ≡ true) → is_ordered (xs ++ ys) ≡ true
ordered-append [] ys p q k = q
ordered-append (x ∷ xs) ys p q k =
    let parts = and_parts (list_all (before x) xs) (is_ordered xs) p in
    and_from (list_all (before x) (xs ++ ys)) (is_ordered (xs ++ ys))
    (list_all-append (before x) xs ys ∙ and_from (list_all (before x) xs) (list_all (before x) ys) parts.0 (list_all-from_among (before x) ys (λ u m. k x u (inl refl) m)))
    (ordered-append xs ys parts.1 q (λ s u m n. k s u (inr m) n))

-- ---- by place

-- a step by place is one of all, and leaves a place that is below the number
pub by_by_place : {P : Type 0} (all : List Step) (n : ℕ) (s : Step) → Among s (by_place all n) → (Among s all → s.from < n → P) → P
by_by_place all zero s m k = absurd m
by_by_place all (suc n) s m k =
    by_append (by_place all n) (leaving n all) s m (λ there. by_by_place all n s there (λ among below. k among (omega arith)))
    (λ own. by_filter (λ u. u.from == n) all s own (λ among is. let from : s.from ≡ n = eqb-true s.from n is in k among (omega arith)))

pub ordered-by_place : (all : List Step) → ((v : ℕ) → is_ordered (leaving v all) ≡ true) → (n : ℕ) → is_ordered (by_place all n) ≡ true
ordered-by_place all own zero = refl
ordered-by_place all own (suc n) =
    ordered-append (by_place all n) (leaving n all) (ordered-by_place all own n) (own n) (λ s u m k.
    by_by_place all n s m (λ among below. by_filter (λ w. w.from == n) all u k (λ also is.
    let from : u.from ≡ n = eqb-true u.from n is in
    or_left (nat_lt s.from u.from) ((s.from == u.from) && nat_lt s.link u.link) (lt-ltb s.from u.from (omega arith)))))

-- ---- at one place

step_link : (routers : List RouterSeen) (least : ℕ) (x : ℕ × Link) (s : Step) → Among s (link_steps routers least x) → s.link ≡ x.0
step_link routers least x s m = by_link_step routers least x s m (λ p e h. by p h)
  where
    by : (p : End × End) → (step_between x.0 (link_cost x.1) p.0 p.1 ≡ s) ⊎ (step_between x.0 (link_cost x.1) p.1 p.0 ≡ s) → s.link ≡ x.0
    by p (inl h) = ap (λ (u : Step). u.link) (sym h)
    by p (inr h) = ap (λ (u : Step). u.link) (sym h)

link_from : (routers : List RouterSeen) (least high : ℕ) (links : List (ℕ × Link)) (low : ℕ) (s : Step) → Between low high links → Among s (all_steps routers least links) → low ≤ s.link
link_from routers least high [] low s b m = absurd m
link_from routers least high (x ∷ links) low s b m =
    by_append (link_steps routers least x) (all_steps routers least links) s m
    (λ own. let link = step_link routers least x s own in let first = b.0 in omega arith)
    (λ later. let link = link_from routers least high links (x.0 + 1) s b.2 later in let first = b.0 in omega arith)

-- the two steps over a link leave two places
ordered_own : (routers : List RouterSeen) (least v : ℕ) (x : ℕ × Link) → is_fit x.1 ≡ true → is_ordered (leaving v (link_steps routers least x)) ≡ true
ordered_own routers least v x fit = by (link_ends routers least x.1) refl
  where
    one : (p : End × End) → p.0.place ≢ p.1.place → (c d : Bool) → (p.0.place == v) ≡ c → (p.1.place == v) ≡ d → (s u : Step)
        → is_ordered (cond c (s ∷ cond d (u ∷ []) []) (cond d (u ∷ []) [])) ≡ true
    one p apart true true e f s u = absurd (apart (eqb-true p.0.place v e ∙ sym (eqb-true p.1.place v f)))
    one p apart true false e f s u = refl
    one p apart false true e f s u = refl
    one p apart false false e f s u = refl

    by : (o : Option (End × End)) → link_ends routers least x.1 ≡ o → is_ordered (leaving v (option_map_or (λ (p : End × End). two_steps x.0 (link_cost x.1) p.0 p.1) o [])) ≡ true
    by None e = refl
    by (Some p) e =
        one p (places_apart routers least x.1 p (priced x.1 fit).apart (ends_are routers least x.1 p e)) (p.0.place == v) (p.1.place == v) refl refl
        (step_between x.0 (link_cost x.1) p.0 p.1) (step_between x.0 (link_cost x.1) p.1 p.0)

pub ordered-leaving : (routers : List RouterSeen) (least high : ℕ) (links : List (ℕ × Link)) (low v : ℕ) → Between low high links → each_passes is_fit links ≡ true
    → is_ordered (leaving v (all_steps routers least links)) ≡ true
ordered-leaving routers least high [] low v b fit = refl
ordered-leaving routers least high (x ∷ links) low v b fit =
    let parts = and_parts (is_fit x.1) (each_passes is_fit links) fit in
    ap is_ordered (filter-append (λ s. s.from == v) (link_steps routers least x) (all_steps routers least links))
    ∙ ordered-append (leaving v (link_steps routers least x)) (leaving v (all_steps routers least links)) (ordered_own routers least v x parts.0)
    (ordered-leaving routers least high links (x.0 + 1) v b.2 parts.1) (λ s u m k.
    by_filter (λ w. w.from == v) (link_steps routers least x) s m (λ own from. by_filter (λ w. w.from == v) (all_steps routers least links) u k (λ later leaves.
    let link = step_link routers least x s own in
    let next = link_from routers least high links (x.0 + 1) u b.2 later in
    or_right (nat_lt s.from u.from) ((s.from == u.from) && nat_lt s.link u.link)
    (and_from (s.from == u.from) (nat_lt s.link u.link) (eq-eqb s.from u.from (eqb-true s.from v from ∙ sym (eqb-true u.from v leaves))) (lt-ltb s.link u.link (omega arith))))))

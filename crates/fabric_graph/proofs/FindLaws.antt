-- Laws of the search for a step: the steps by place have the step of a place and a link exactly where the link has it.
use Rattle.std.proofs.Common.{◌≡◌, ◌≢◌, ℕ, zero, suc, ◌+◌, ◌≤◌, ◌<◌, ◌==◌, Bool, true, false, cond, ◌&&◌, ◌⊎◌, inl, inr, List, [], ◌∷◌, Option, Some, None, refl, sym, ◌∙◌, ap, ap₂, arith, ne_eqb, eqb-true}
use Rattle.std.proofs.lemmas.Bool.{cases_lt}
use Rattle.std.proofs.lemmas.List.Folds.{find-append}
use Rattle.std.specs.List.{find}
use Rattle.std.specs.Option.{option_or, option_map_or, option_and_then}
use Rattle.ctrl_model.specs.declared.kinds.RouterSeen.{RouterSeen}
use Rattle.ctrl_model.specs.Networks.{link_cost}
use Rattle.ctrl_model.specs.Numbered.{at, Between}
use Rattle.ctrl_model.specs.State.{Link}
use Rattle.ctrl_model.proofs.NumberedLaws.{at-below}
use Rattle.path_certificate.specs.declared.graph.Step.{Step}
use Rattle.path_certificate.specs.Graphs.{leaves}
use Rattle.fabric_graph.specs.declared.steps.End.{End}
use Rattle.fabric_graph.specs.Steps.{link_ends, step_between, two_steps, link_steps, all_steps, leaving, by_place}

or-none : {X : Type 0} (o : Option X) → option_or o None ≡ o
or-none None = refl
or-none (Some x) = refl

-- ---- among the steps of one place

find-own : (v l : ℕ) (all : List Step) → find (leaves v l) (leaving v all) ≡ find (leaves v l) all
find-own v l [] = refl
find-own v l (s ∷ all) = by (s.from == v) refl (find-own v l all)
  where
    by : (c : Bool) → (s.from == v) ≡ c → find (leaves v l) (leaving v all) ≡ find (leaves v l) all
        → find (leaves v l) (cond c (s ∷ leaving v all) (leaving v all)) ≡ cond (c && (s.link == l)) (Some s) (find (leaves v l) all)
    by true is e = ap (λ c. cond (c && (s.link == l)) (Some s) (find (leaves v l) (leaving v all))) is ∙ ap (cond (s.link == l) (Some s)) e
    by false is e = e

find-other : (u v l : ℕ) (all : List Step) → u ≢ v → find (leaves v l) (leaving u all) ≡ None
find-other u v l [] ne = refl
find-other u v l (s ∷ all) ne = by (s.from == u) refl (find-other u v l all ne)
  where
    by : (c : Bool) → (s.from == u) ≡ c → find (leaves v l) (leaving u all) ≡ None → find (leaves v l) (cond c (s ∷ leaving u all) (leaving u all)) ≡ None
    by true is e =
        let from : (s.from == v) ≡ false = ne_eqb s.from v (λ p. ne (sym (eqb-true s.from u is) ∙ p)) in
        ap (λ c. cond (c && (s.link == l)) (Some s) (find (leaves v l) (leaving u all))) from ∙ e
    by false is e = e

-- ---- among the steps by place

find-past : (v l n : ℕ) (all : List Step) → n ≤ v → find (leaves v l) (by_place all n) ≡ None
find-past v l zero all p = refl
find-past v l (suc n) all p =
    find-append (leaves v l) (by_place all n) (leaving n all)
    ∙ ap₂ option_or (find-past v l n all (omega arith)) (find-other n v l all (λ e. absurd (omega arith)))

pub find-by_place : (v l n : ℕ) (all : List Step) → v < n → find (leaves v l) (by_place all n) ≡ find (leaves v l) all
find-by_place v l zero all p = absurd (omega arith)
find-by_place v l (suc n) all p = find-append (leaves v l) (by_place all n) (leaving n all) ∙ by (cases_lt v n) (λ below. find-by_place v l n all below)
  where
    by : (v < n) ⊎ (n ≤ v) → (v < n → find (leaves v l) (by_place all n) ≡ find (leaves v l) all)
        → option_or (find (leaves v l) (by_place all n)) (find (leaves v l) (leaving n all)) ≡ find (leaves v l) all
    by (inl below) k = ap₂ option_or (k below) (find-other n v l all (λ e. absurd (omega arith))) ∙ or-none (find (leaves v l) all)
    by (inr past) k =
        let same : v ≡ n = omega arith in
        ap₂ option_or (find-past v l n all past) (ap (λ u. find (leaves v l) (leaving u all)) (sym same)) ∙ find-own v l all

-- ---- among the steps of links

other_link : (v l : ℕ) (routers : List RouterSeen) (least : ℕ) (x : ℕ × Link) → (x.0 == l) ≡ false → find (leaves v l) (link_steps routers least x) ≡ None
other_link v l routers least x other = by (link_ends routers least x.1)
  where
    none : (c d : Bool) (s u : Step) → cond (c && false) (Some s) (cond (d && false) (Some u) None) ≡ None
    none true true s u = refl
    none true false s u = refl
    none false true s u = refl
    none false false s u = refl

    by : (o : Option (End × End)) → find (leaves v l) (option_map_or (λ (p : End × End). two_steps x.0 (link_cost x.1) p.0 p.1) o []) ≡ None
    by None = refl
    by (Some p) =
        ap (λ c. cond ((p.0.place == v) && c) (Some (step_between x.0 (link_cost x.1) p.0 p.1)) (cond ((p.1.place == v) && c) (Some (step_between x.0 (link_cost x.1) p.1 p.0)) None)) other
        ∙ none (p.0.place == v) (p.1.place == v) (step_between x.0 (link_cost x.1) p.0 p.1) (step_between x.0 (link_cost x.1) p.1 p.0)

pub find-all_steps : (v l : ℕ) (routers : List RouterSeen) (least high : ℕ) (links : List (ℕ × Link)) (low : ℕ) → Between low high links
    → find (leaves v l) (all_steps routers least links) ≡ option_and_then (λ link. find (leaves v l) (link_steps routers least (l, link))) (at links l)
find-all_steps v l routers least high [] low b = refl
find-all_steps v l routers least high (x ∷ links) low b =
    find-append (leaves v l) (link_steps routers least x) (all_steps routers least links) ∙ by (x.0 == l) refl (find-all_steps v l routers least high links (x.0 + 1) b.2)
  where
    by : (c : Bool) → (x.0 == l) ≡ c
        → find (leaves v l) (all_steps routers least links) ≡ option_and_then (λ link. find (leaves v l) (link_steps routers least (l, link))) (at links l)
        → option_or (find (leaves v l) (link_steps routers least x)) (find (leaves v l) (all_steps routers least links))
        ≡ option_and_then (λ link. find (leaves v l) (link_steps routers least (l, link))) (cond c (Some x.1) (at links l))
    by true is e =
        let number : x.0 ≡ l = eqb-true x.0 l is in
        let later : find (leaves v l) (all_steps routers least links) ≡ None =
        e ∙ ap (option_and_then (λ link. find (leaves v l) (link_steps routers least (l, link)))) (at-below high links (x.0 + 1) l b.2 (omega arith)) in
        ap₂ option_or (ap (λ k. find (leaves v l) (link_steps routers least (k, x.1))) number) later ∙ or-none (find (leaves v l) (link_steps routers least (l, x.1)))
    by false is e = ap (λ o. option_or o (find (leaves v l) (all_steps routers least links))) (other_link v l routers least x is) ∙ e

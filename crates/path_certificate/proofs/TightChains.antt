-- Chains of tight hops, and that they are paths.
use Rattle.std.proofs.Common.{◌≡◌, ℕ, ◌+◌, ◌<◌, ◌≤◌, ◌==◌, ◌&&◌, true, false, List, [], ◌∷◌, Some, ◌∙◌, ap, arith, ltb, eqb-true, eq-eqb, ltb-true, ⊎_elim}
use Rattle.std.proofs.lemmas.Bool.{and_parts, and_from, or_cases, lt-ltb}
use Rattle.std.specs.Option.{option_map_or}
use Rattle.ctrl_model.specs.Walks.{Hops, goes}
use Rattle.ctrl_model.proofs.WalkLaws.{by_there}
use Rattle.ctrl_model.proofs.TightLaws.{tight_goes}
use Rattle.ctrl_model.specs.Claims.{is_tight, no_path}
use Rattle.path_certificate.specs.Graphs.{potential}

-- what a tight hop says in numbers
pub record IsTight (p : List ℕ) (v : ℕ) (h : ℕ × ℕ) : Type 0 where
  pub falls : potential p v ≡ h.1 + potential p h.0
  pub there : potential p v < no_path

-- a chain of one link and more begins with a tight hop, and goes on from there
pub by_tight : {P : Type 0} (hop : Hops) (p : List ℕ) (t v l : ℕ) (ls : List ℕ) → is_tight hop (potential p) t v (l ∷ ls) ≡ true
    → ((h : ℕ × ℕ) → hop v l ≡ Some h → IsTight p v h → is_tight hop (potential p) t h.0 ls ≡ true → P) → P
by_tight hop p t v l ls e k =
    by_there (λ (h : ℕ × ℕ). (potential p v == h.1 + potential p h.0) && (ltb (potential p v) no_path && is_tight hop (potential p) t h.0 ls))
    (hop v l) e (λ h is all.
    let first = and_parts (potential p v == (h.1 + potential p h.0))
    (ltb (potential p v) no_path && is_tight hop (potential p) t h.0 ls) all in
    let rest = and_parts (ltb (potential p v) no_path) (is_tight hop (potential p) t h.0 ls) first.1 in
    k h is (record {
      falls = eqb-true (potential p v) (h.1 + potential p h.0) first.0;
      there = ltb-true (potential p v) no_path rest.0;
    }) rest.1)

pub tight_more : (hop : Hops) (p : List ℕ) (t v l : ℕ) (ls : List ℕ) (h : ℕ × ℕ) → hop v l ≡ Some h → IsTight p v h
    → is_tight hop (potential p) t h.0 ls ≡ true → is_tight hop (potential p) t v (l ∷ ls) ≡ true
tight_more hop p t v l ls h is e rest =
    ap (λ o. option_map_or
    (λ (h : ℕ × ℕ). (potential p v == h.1 + potential p h.0) && (ltb (potential p v) no_path && is_tight hop (potential p) t h.0 ls)) o false) is
    ∙ and_from (potential p v == (h.1 + potential p h.0)) (ltb (potential p v) no_path && is_tight hop (potential p) t h.0 ls)
    (eq-eqb (potential p v) (h.1 + potential p h.0) e.falls)
    (and_from (ltb (potential p v) no_path) (is_tight hop (potential p) t h.0 ls) (lt-ltb (potential p v) no_path e.there) rest)

-- where each hop costs something, a chain is a path
pub tight_path : (hop : Hops) (p : List ℕ) (t : ℕ) → ((v l : ℕ) (h : ℕ × ℕ) → hop v l ≡ Some h → 1 ≤ h.1)
    → (ls : List ℕ) (v : ℕ) → is_tight hop (potential p) t v ls ≡ true → goes hop t (v ∷ []) v ls ≡ true
tight_path hop p t costs ls v e = tight_goes hop (potential p) t costs ls (v ∷ []) v (λ x among.
    ⊎_elim (λ s. let same : potential p v ≡ potential p x = ap (potential p) (eqb-true v x s) in omega arith)
    (λ s. absurd (cc)) (or_cases (v == x) false among)) e

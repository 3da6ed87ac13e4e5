-- Numbers of which some pass or give something, looked at one after another.
use Rattle.std.proofs.Common.{◌≡◌, ℕ, suc, ◌+◌, ◌<◌, Bool, true, false, cond, List, ◌∷◌, [], ◌++◌, drop, length, get_or, Option, Some, None, sym, ◌∙◌, ap, subst, arith}
use Rattle.std.proofs.Math.Seq.{drop-cons}
use Rattle.std.proofs.lemmas.List.{append_assoc}
use Rattle.std.specs.List.{filter, filter_map, cons_option}

-- the place behind one
behind : (i : ℕ) → suc i ≡ i + 1
behind i = omega arith

-- what passes from a place on
from_here : (p : ℕ → Bool) (ns : List ℕ) (i : ℕ) (b : Bool) → i < length ns → p (get_or ns i 0) ≡ b
    → filter p (drop i ns) ≡ cond b (get_or ns i 0 ∷ filter p (drop (i + 1) ns)) (filter p (drop (i + 1) ns))
from_here p ns i b within e =
    ap (filter p) (drop-cons ns i 0 within ∙ ap (λ k. get_or ns i 0 ∷ drop k ns) (behind i))
    ∙ ap (λ t. cond t (get_or ns i 0 ∷ filter p (drop (i + 1) ns)) (filter p (drop (i + 1) ns))) e

module _ (p : ℕ → Bool) (seen ns : List ℕ) (same : seen ≡ ns) (i : ℕ) (within : i < length seen) where
  -- from a place on, of the numbers that were seen
  here : (b : Bool) → p (get_or seen i 0) ≡ b → filter p (drop i ns) ≡ cond b (get_or seen i 0 ∷ filter p (drop (i + 1) ns)) (filter p (drop (i + 1) ns))
  here b e = subst (λ (l : List ℕ). filter p (drop i l) ≡ cond b (get_or seen i 0 ∷ filter p (drop (i + 1) l)) (filter p (drop (i + 1) l))) same (from_here p seen i b within e)

  -- a number that passes
  pub passed : (found new : List ℕ) → p (get_or seen i 0) ≡ true → new ≡ found ++ (get_or seen i 0 ∷ []) → found ++ filter p (drop i ns) ≡ filter p ns
      → new ++ filter p (drop (i + 1) ns) ≡ filter p ns
  passed found new e pushed so_far =
      ap (λ (xs : List ℕ). xs ++ filter p (drop (i + 1) ns)) pushed
      ∙ append_assoc found (get_or seen i 0 ∷ []) (filter p (drop (i + 1) ns))
      ∙ ap (λ (xs : List ℕ). found ++ xs) (sym (here true e))
      ∙ so_far

  -- one that does not
  pub left : (found : List ℕ) → p (get_or seen i 0) ≡ false → found ++ filter p (drop i ns) ≡ filter p ns → found ++ filter p (drop (i + 1) ns) ≡ filter p ns
  left found e so_far = ap (λ (xs : List ℕ). found ++ xs) (sym (here false e)) ∙ so_far

-- what numbers give from a place on
given_here : {X : Type 0} (h : ℕ → Option X) (ns : List ℕ) (i : ℕ) (o : Option X) → i < length ns → h (get_or ns i 0) ≡ o → filter_map h (drop i ns) ≡ cons_option o (filter_map h (drop (i + 1) ns))
given_here h ns i o within e =
    ap (filter_map h) (drop-cons ns i 0 within ∙ ap (λ k. get_or ns i 0 ∷ drop k ns) (behind i)) ∙ ap (λ x. cons_option x (filter_map h (drop (i + 1) ns))) e

module _ {X : Type 0} (h : ℕ → Option X) (seen ns : List ℕ) (same : seen ≡ ns) (i : ℕ) (within : i < length seen) where
  -- from a place on, of the numbers that were seen
  gives : (o : Option X) → h (get_or seen i 0) ≡ o → filter_map h (drop i ns) ≡ cons_option o (filter_map h (drop (i + 1) ns))
  gives o e = subst (λ (l : List ℕ). filter_map h (drop i l) ≡ cons_option o (filter_map h (drop (i + 1) l))) same (given_here h seen i o within e)

  -- a number that gives something
  pub taken : (found new : List X) (x : X) → h (get_or seen i 0) ≡ Some x → new ≡ found ++ (x ∷ []) → found ++ filter_map h (drop i ns) ≡ filter_map h ns
      → new ++ filter_map h (drop (i + 1) ns) ≡ filter_map h ns
  taken found new x e pushed so_far =
      ap (λ (xs : List X). xs ++ filter_map h (drop (i + 1) ns)) pushed
      ∙ append_assoc found (x ∷ []) (filter_map h (drop (i + 1) ns))
      ∙ ap (λ (xs : List X). found ++ xs) (sym (gives (Some x) e))
      ∙ so_far

  -- one that gives nothing
  pub skipped : (found : List X) → h (get_or seen i 0) ≡ None → found ++ filter_map h (drop i ns) ≡ filter_map h ns → found ++ filter_map h (drop (i + 1) ns) ≡ filter_map h ns
  skipped found e so_far = ap (λ (xs : List X). found ++ xs) (sym (gives None e)) ∙ so_far

-- Numbers of routers of which some pass, looked at one router after another.
use Rattle.std.proofs.Common.{◌≡◌, ℕ, suc, ◌+◌, ◌<◌, Bool, true, false, cond, List, ◌∷◌, [], ◌++◌, map, filter, drop, length, get_or, sym, ◌∙◌, ap, arith}
use Rattle.std.proofs.Math.Seq.{drop-cons}
use Rattle.std.proofs.lemmas.List.{append_assoc}
use Rattle.ctrl_model.specs.declared.kinds.RouterSeen.{RouterSeen}

-- the place behind one
behind : (i : ℕ) → suc i ≡ i + 1
behind i = omega arith

module _ (p : ℕ → Bool) (routers : List RouterSeen) (i : ℕ) (none : RouterSeen) (within : i < length routers) where
  -- what passes of the routers from a place on
  abbrev from : ℕ → List ℕ
  from k = filter p (map (λ (r : RouterSeen). r.no.0) (drop k routers))

  -- the number of the router at the place
  abbrev n : ℕ
  n = (get_or routers i none).no.0

  -- what passes of it and of those behind it
  here : (b : Bool) → p n ≡ b → from i ≡ cond b (n ∷ from (i + 1)) (from (i + 1))
  here b e =
      ap (λ (rs : List RouterSeen). filter p (map (λ (r : RouterSeen). r.no.0) rs)) (drop-cons routers i none within ∙ ap (λ k. get_or routers i none ∷ drop k routers) (behind i))
      ∙ ap (λ t. cond t (n ∷ from (i + 1)) (from (i + 1))) e

  -- a number that passes
  pub passes : (all found new : List ℕ) → p n ≡ true → new ≡ found ++ (n ∷ []) → found ++ from i ≡ all → new ++ from (i + 1) ≡ all
  passes all found new e pushed so_far =
      ap (λ (xs : List ℕ). xs ++ from (i + 1)) pushed ∙ append_assoc found (n ∷ []) (from (i + 1)) ∙ ap (λ (xs : List ℕ). found ++ xs) (sym (here true e)) ∙ so_far

  -- one that does not
  pub fails : (all found : List ℕ) → p n ≡ false → found ++ from i ≡ all → found ++ from (i + 1) ≡ all
  fails all found e so_far = ap (λ (xs : List ℕ). found ++ xs) (sym (here false e)) ∙ so_far

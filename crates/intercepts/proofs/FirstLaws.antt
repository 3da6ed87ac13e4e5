-- Laws of the first of some hits: what it is of hits before others, and in a loop over what gives hits.
use Rattle.std.proofs.Common.{◌≡◌, ℕ, ◌+◌, ◌<◌, Bool, true, false, cond, List, [], ◌∷◌, ◌++◌, drop, get_or, length, map, filter, Option, None, Some, refl, sym, ◌∙◌, ap}
use Rattle.std.proofs.lemmas.Bool.{false≢true, cond-true, cond-false}
use Rattle.std.proofs.lemmas.List.{drop_more}
use Rattle.std.specs.List.{flat_map}
use Rattle.ctrl_model.specs.Hits.{Hit, hit_rank}
use Rattle.ctrl_model.specs.Ranks.{comes_before, first_of, least_by}
use Rattle.model_laws.proofs.BestLaws.{not_before, before_one_way}
use Rattle.intercepts.specs.FirstHits.{first_with}

-- ---- one hit after the other

-- what comes before what comes before a hit comes before it
before_on : (a b c : Hit) (p : Bool) → comes_before hit_rank c a ≡ p → comes_before hit_rank c b ≡ true → comes_before hit_rank b a ≡ true → p ≡ true
before_on a b c true is e f = refl
before_on a b c false is e f = absurd (false≢true (sym (not_before hit_rank c a b is (before_one_way hit_rank b a f)) ∙ e))

-- the first of two hits, and of others, is the first of the one, and of the first of the other and those
first_of-twice : (a b : Hit) (o : Option Hit) → first_of hit_rank (first_of hit_rank a (Some b)) o ≡ first_of hit_rank a (Some (first_of hit_rank b o))
first_of-twice a b None = refl
first_of-twice a b (Some c) = by (comes_before hit_rank b a) (comes_before hit_rank c b) refl refl
  where
    by : (p q : Bool) → comes_before hit_rank b a ≡ p → comes_before hit_rank c b ≡ q
        → first_of hit_rank (cond p b a) (Some c) ≡ first_of hit_rank a (Some (cond q c b))
    by true true f e = cond-true (comes_before hit_rank c b) c b e ∙ sym (cond-true (comes_before hit_rank c a) c a (before_on a b c (comes_before hit_rank c a) refl e f))
    by true false f e = cond-false (comes_before hit_rank c b) c b e ∙ sym (cond-true (comes_before hit_rank b a) b a f)
    by false true f e = refl
    by false false f e = cond-false (comes_before hit_rank c a) c a (not_before hit_rank c b a e f) ∙ sym (cond-false (comes_before hit_rank b a) b a f)

pub first_with-append : (best : Option Hit) (xs ys : List Hit) → first_with best (xs ++ ys) ≡ first_with (first_with best xs) ys
first_with-append None [] ys = refl
first_with-append (Some h) [] ys = refl
first_with-append None (x ∷ xs) ys = first_with-append (Some x) xs ys
first_with-append (Some h) (x ∷ xs) ys =
    ap Some (sym (first_of-twice h x (least_by hit_rank (xs ++ ys))))
    ∙ first_with-append (Some (first_of hit_rank h (Some x))) xs ys
    ∙ ap (λ (m : Hit). first_with (Some m) ys) (first_of-twice h x (least_by hit_rank xs))

-- ---- one step of a loop

module _ {A : Type 0} (xs : List A) (i : ℕ) (x : A) (best : Option Hit) (there : i < length xs) where
  -- over what gives some hits each
  pub next_hits : (g : A → List Hit) → first_with (first_with best (g (get_or xs i x))) (flat_map g (drop (i + 1) xs)) ≡ first_with best (flat_map g (drop i xs))
  next_hits g =
      sym (first_with-append best (g (get_or xs i x)) (flat_map g (drop (i + 1) xs)))
      ∙ sym (ap (λ (ys : List A). first_with best (flat_map g ys)) (drop_more xs i x there))

  -- over what gives one hit each, if it passes a test
  pub next_hit : (f : A → Hit) (p : A → Bool) → p (get_or xs i x) ≡ true
      → first_with (first_with best (f (get_or xs i x) ∷ [])) (map f (filter p (drop (i + 1) xs))) ≡ first_with best (map f (filter p (drop i xs)))
  next_hit f p passes =
      let rest = map f (filter p (drop (i + 1) xs)) in
      sym (first_with-append best (f (get_or xs i x) ∷ []) rest)
      ∙ sym (ap (λ (b : Bool). first_with best (map f (cond b (get_or xs i x ∷ filter p (drop (i + 1) xs)) (filter p (drop (i + 1) xs))))) passes)
      ∙ sym (ap (λ (ys : List A). first_with best (map f (filter p ys))) (drop_more xs i x there))

  pub no_hit : (f : A → Hit) (p : A → Bool) → p (get_or xs i x) ≡ false
      → first_with best (map f (filter p (drop (i + 1) xs))) ≡ first_with best (map f (filter p (drop i xs)))
  no_hit f p fails =
      sym (ap (λ (b : Bool). first_with best (map f (cond b (get_or xs i x ∷ filter p (drop (i + 1) xs)) (filter p (drop (i + 1) xs))))) fails)
      ∙ sym (ap (λ (ys : List A). first_with best (map f (filter p ys))) (drop_more xs i x there))

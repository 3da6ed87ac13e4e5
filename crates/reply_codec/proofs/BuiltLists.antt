-- What the values of a list say, one more at a time.
use Rattle.std.proofs.Common.{◌≡◌, ℕ, Bool, true, false, refl, ◌+◌, ◌<◌, List, [], ◌∷◌, ◌++◌, length, get_or, map, take, sym, ap, ap₂, ◌∙◌}
use Rattle.std.proofs.lemmas.Bool.{false≢true}
use Rattle.std.proofs.lemmas.List.Folds.{list_all_at}
use Rattle.std.specs.List.{list_all}
use Rattle.std.proofs.lemmas.List.{map_more, map-append}

-- a value pushed for the element at the index
pub pushed : {V X D : Type 0} (g : V → D) (f : X → D) (vs ws : List V) (v : V) (xs ys : List X) (i : ℕ) (x : X) → ys ≡ xs → i < length ys →
    ws ≡ vs ++ v ∷ [] → g v ≡ f (get_or ys i x) → map g vs ≡ map f (take i xs) → map g ws ≡ map f (take (i + 1) xs)
pushed g f vs ws v xs ys i x same within e here before =
    ap (map g) e ∙ map-append g vs (v ∷ []) ∙ ap₂ (λ ds d. ds ++ d ∷ []) (before ∙ ap (λ zs. map f (take i zs)) (sym same)) here
    ∙ sym (map_more f ys i x within) ∙ ap (λ zs. map f (take (i + 1) zs)) same

-- an element of a list whose elements all pass a test
pub each_passes : {X : Type 0} (p : X → Bool) (xs ys : List X) (i : ℕ) (x : X) → ys ≡ xs → i < length ys → list_all p xs ≡ true → p (get_or ys i x) ≡ true
each_passes p xs ys i x same within all = by (p (get_or ys i x)) refl
  where
    by : (b : Bool) → p (get_or ys i x) ≡ b → p (get_or ys i x) ≡ true
    by true e = e
    by false e = absurd (false≢true (sym (list_all_at p ys i x within e) ∙ ap (list_all p) same ∙ all))

-- a list of which nothing is asked
pub none_asked : {X : Type 0} (xs : List X) → list_all (λ _. true) xs ≡ true
none_asked [] = refl
none_asked (x ∷ xs) = none_asked xs

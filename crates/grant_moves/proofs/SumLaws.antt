-- Sums over lists: of a list of lists, and of terms that move together.
use Rattle.std.proofs.Common.{◌≡◌, ℕ, ◌+◌, List, [], ◌∷◌, refl, sym, ◌∙◌, ap, ap₂, arith}
use Rattle.std.proofs.lemmas.List.Sums.{sum_by-cons, sum_by-append}
use Rattle.std.specs.List.{flat_map, sum_by}

pub sum_by-flat_map : {A X : Type 0} (f : X → ℕ) (g : A → List X) (xs : List A) → sum_by f (flat_map g xs) ≡ sum_by (λ x. sum_by f (g x)) xs
sum_by-flat_map f g [] = refl
sum_by-flat_map f g (x ∷ xs) =
    sum_by-append f (g x) (flat_map g xs) ∙ ap (λ n. sum_by f (g x) + n) (sum_by-flat_map f g xs) ∙ sym (sum_by-cons (λ y. sum_by f (g y)) x xs)

-- where each term moves by its steps up and down, so does the sum
pub sums_moved : {X : Type 0} (before after up down : X → ℕ) → ((x : X) → after x + down x ≡ before x + up x) → (xs : List X)
    → sum_by after xs + sum_by down xs ≡ sum_by before xs + sum_by up xs
sums_moved before after up down moved [] = refl
sums_moved before after up down moved (x ∷ xs) =
    ap₂ (λ m n. m + n) (sum_by-cons after x xs) (sum_by-cons down x xs)
    ∙ joined (after x) (down x) (before x) (up x) (sum_by after xs) (sum_by down xs) (sum_by before xs) (sum_by up xs) (moved x) (sums_moved before after up down moved xs)
    ∙ sym (ap₂ (λ m n. m + n) (sum_by-cons before x xs) (sum_by-cons up x xs))
  where
    joined : (a d b u a' d' b' u' : ℕ) → a + d ≡ b + u → a' + d' ≡ b' + u' → (a + a') + (d + d') ≡ (b + b') + (u + u')
    joined a d b u a' d' b' u' e f = omega arith

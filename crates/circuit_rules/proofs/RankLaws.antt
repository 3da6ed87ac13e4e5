-- Laws on the order of ranks: what choices say of the order of their candidates.
use Rattle.std.proofs.Common.{◌≡◌, ℕ, ◌<◌, ◌≤◌, false, List, ◌∷◌, arith, is_lt, nat_cmp}
use Rattle.std.specs.Cmp.Lexicographic.{slice_cmp}
use Rattle.model_laws.proofs.BestLaws.{head_le, tail_not_below}
use Rattle.path_search.proofs.NetworkPaths.{not_less}

-- a list that begins with no less than one that is not below another is not below any with the other's head, if it is not where
-- both begin alike
no_less : (m a b : ℕ) (xs ys zs ws : List ℕ) → m ≤ a → is_lt (slice_cmp nat_cmp (m ∷ xs) (b ∷ ys)) ≡ false
    → (m ≡ b → a ≡ b → is_lt (slice_cmp nat_cmp zs ws) ≡ false) → is_lt (slice_cmp nat_cmp (a ∷ zs) (b ∷ ws)) ≡ false
no_less m a b xs ys zs ws most e k =
    let le = head_le m b xs ys e in
    not_less a b zs ws (omega arith) (λ same. k (omega arith) same)

-- where the key of a choice is not below that of another, the rank of a candidate of at least its total is not below that of the
-- other's candidate, if the links are not where all else is alike
pub rank_not_below : (p m n t i q x u j : ℕ) (xs ys zs ws : List ℕ) → m ≤ n → is_lt (slice_cmp nat_cmp (p ∷ m ∷ t ∷ i ∷ xs) (q ∷ x ∷ u ∷ j ∷ ys)) ≡ false
    → (n ≡ x → t ≡ u → i ≡ j → is_lt (slice_cmp nat_cmp zs ws) ≡ false)
    → is_lt (slice_cmp nat_cmp (p ∷ n ∷ t ∷ i ∷ zs) (q ∷ x ∷ u ∷ j ∷ ws)) ≡ false
rank_not_below p m n t i q x u j xs ys zs ws most e k =
    no_less p p q (m ∷ t ∷ i ∷ xs) (x ∷ u ∷ j ∷ ys) (n ∷ t ∷ i ∷ zs) (x ∷ u ∷ j ∷ ws) (omega arith) e (λ same_p _.
    totals (tail_not_below p q (m ∷ t ∷ i ∷ xs) (x ∷ u ∷ j ∷ ys) same_p e))
  where
    totals : is_lt (slice_cmp nat_cmp (m ∷ t ∷ i ∷ xs) (x ∷ u ∷ j ∷ ys)) ≡ false → is_lt (slice_cmp nat_cmp (n ∷ t ∷ i ∷ zs) (x ∷ u ∷ j ∷ ws)) ≡ false
    totals f = no_less m n x (t ∷ i ∷ xs) (u ∷ j ∷ ys) (t ∷ i ∷ zs) (u ∷ j ∷ ws) most f (λ same_m same_n.
        terminators same_n (tail_not_below m x (t ∷ i ∷ xs) (u ∷ j ∷ ys) same_m f))
      where
        terminators : n ≡ x → is_lt (slice_cmp nat_cmp (t ∷ i ∷ xs) (u ∷ j ∷ ys)) ≡ false → is_lt (slice_cmp nat_cmp (t ∷ i ∷ zs) (u ∷ j ∷ ws)) ≡ false
        terminators same_n g = no_less t t u (i ∷ xs) (j ∷ ys) (i ∷ zs) (j ∷ ws) (omega arith) g (λ same_t _.
            no_less i i j xs ys zs ws (omega arith) (tail_not_below t u (i ∷ xs) (j ∷ ys) same_t g) (λ same_i _. k same_n same_t same_i))

-- a list that begins with a greater number is not below another
pub greater_head : (a b : ℕ) (xs ys : List ℕ) → b < a → is_lt (slice_cmp nat_cmp (a ∷ xs) (b ∷ ys)) ≡ false
greater_head a b xs ys h = not_less a b xs ys (omega arith) (λ same. absurd (omega arith))

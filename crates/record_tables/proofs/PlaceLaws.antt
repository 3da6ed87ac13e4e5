-- Laws of a numbered map that is kept as a list of elements, each seen as a row: what stands at a place, what a removal and a
-- write at a place are, and what a binary search finds.
use Rattle.std.proofs.Common.{◌≡◌, ◌≢◌, ℕ, zero, suc, ◌+◌, ◌<◌, ◌≤◌, ◌==◌, nat_lt, Bool, true, false, cond, not, List, [], ◌∷◌, map, length, get_or, slice_get, None, Some, Result, Ok, Err, MatchResult, refl, sym, ◌∙◌, ap, arith, eq-eqb, ne_eqb}
use Rattle.std.proofs.lemmas.Bool.{cond-true, cond-false}
use Rattle.std.proofs.lemmas.Bool.Decides.{nat_tests}
use Rattle.std.proofs.lemmas.Option.{same_Some, none-some, slice_get-get_or}
use Rattle.std.specs.FinMap.{nat_cmp-IsAntisymmetric}
use Rattle.std.specs.List.{remove}
use Rattle.std.specs.List.Sorted.{IsBinarySearchResult, IsSearchInRange}
use Rattle.std.specs.Ordering.{nat_cmp, ordering_index}
use Rattle.std.specs.declared.cmp.Ordering.TheVariants.{Less, Equal, Greater}
use Rattle.indexmap.specs.IndexMap.{set_value_at}
use Rattle.ctrl_model.specs.Numbered.{at, edit_at, without, Between}
use Rattle.ctrl_model.proofs.NumberedLaws.{at-within}

-- numbers that all lie above one are not touched by a change there
pub without-above : {R : Type 0} (high : ℕ) (xs : List (ℕ × R)) (low n : ℕ) → n < low → Between low high xs → without xs n ≡ xs
without-above high [] low n l b = refl
without-above high (x ∷ xs) low n l b =
    ap (λ c. cond (not c) (x ∷ without xs n) (without xs n)) (ne_eqb x.0 n (λ e. absurd (omega arith))) ∙ ap (λ ys. x ∷ ys) (without-above high xs (x.0 + 1) n (omega arith) b.2)

pub edit_at-above : {R : Type 0} (high : ℕ) (xs : List (ℕ × R)) (low n : ℕ) (f : R → R) → n < low → Between low high xs → edit_at xs n f ≡ xs
edit_at-above high [] low n f l b = refl
edit_at-above high (x ∷ xs) low n f l b =
    ap (λ c. (x.0, cond c (f x.1) x.1) ∷ edit_at xs n f) (ne_eqb x.0 n (λ e. absurd (omega arith))) ∙ ap (λ ys. x ∷ ys) (edit_at-above high xs (x.0 + 1) n f (omega arith) b.2)

index-le : (a b n : ℕ) → a ≤ b → ordering_index (nat_cmp a n) ≤ ordering_index (nat_cmp b n)
index-le a b n l = by (nat_lt a n) (a == n) (nat_lt b n) (b == n) refl refl refl refl
  where
    by : (p q r s : Bool) → nat_lt a n ≡ p → (a == n) ≡ q → nat_lt b n ≡ r → (b == n) ≡ s
        → ordering_index (cond p Less (cond q Equal Greater)) ≤ ordering_index (cond r Less (cond s Equal Greater))
    by true q r s d e f g = omega arith
    by false q true s d e f g = absurd (grind (arith, nat_tests))
    by false true false true d e f g = omega arith
    by false true false false d e f g = omega arith
    by false false false true d e f g = absurd (grind (arith, nat_tests))
    by false false false false d e f g = omega arith

module _ {E R : Type 0} (g : E → ℕ × R) where
  -- what stands at a place stands at its number
  pub at-place : (high : ℕ) (es : List E) (low i n : ℕ) (e : E) → Between low high (map g es) → slice_get es i ≡ Some e → (g e).0 ≡ n → at (map g es) n ≡ Some (g e).1
  at-place high [] low i n e b s p = absurd (none-some e s)
  at-place high (x ∷ es) low zero n e b s p =
      let same : x ≡ e = same_Some x e s in
      cond-true ((g x).0 == n) (Some (g x).1) (at (map g es) n) (eq-eqb (g x).0 n (ap (λ y. (g y).0) same ∙ p)) ∙ ap (λ y. Some (g y).1) same
  at-place high (x ∷ es) low (suc i) n e b s p =
      let found = at-place high es ((g x).0 + 1) i n e b.2 s p in
      let later = at-within high (map g es) ((g x).0 + 1) n (g e).1 b.2 found in
      cond-false ((g x).0 == n) (Some (g x).1) (at (map g es) n) (ne_eqb (g x).0 n (λ q. absurd (omega arith))) ∙ found

  -- a removal at a place takes its number away
  pub without-place : (high : ℕ) (es : List E) (low i n : ℕ) (e : E) → Between low high (map g es) → slice_get es i ≡ Some e → (g e).0 ≡ n
      → map g (remove es i) ≡ without (map g es) n
  without-place high [] low i n e b s p = absurd (none-some e s)
  without-place high (x ∷ es) low zero n e b s p =
      let same : (g x).0 ≡ n = ap (λ y. (g y).0) (same_Some x e s) ∙ p in
      sym (without-above high (map g es) ((g x).0 + 1) n (omega arith) b.2)
      ∙ sym (ap (λ c. cond (not c) (g x ∷ without (map g es) n) (without (map g es) n)) (eq-eqb (g x).0 n same))
  without-place high (x ∷ es) low (suc i) n e b s p =
      let found = at-place high es ((g x).0 + 1) i n e b.2 s p in
      let later = at-within high (map g es) ((g x).0 + 1) n (g e).1 b.2 found in
      ap (λ ys. g x ∷ ys) (without-place high es ((g x).0 + 1) i n e b.2 s p)
      ∙ sym (ap (λ c. cond (not c) (g x ∷ without (map g es) n) (without (map g es) n)) (ne_eqb (g x).0 n (λ q. absurd (omega arith))))

  -- where no place has a number, nothing stands there
  at-no_place : (es : List E) (n : ℕ) → ((k : ℕ) (d : E) → k < length es → (g (get_or es k d)).0 ≢ n) → at (map g es) n ≡ None
  at-no_place [] n h = refl
  at-no_place (x ∷ es) n h =
      cond-false ((g x).0 == n) (Some (g x).1) (at (map g es) n) (ne_eqb (g x).0 n (h 0 x (omega arith))) ∙ at-no_place es n (λ k d l. h (suc k) d (omega arith))

  from_low : (high : ℕ) (es : List E) (low j : ℕ) (d : E) → Between low high (map g es) → j < length es → low ≤ (g (get_or es j d)).0
  from_low high [] low j d b l = absurd (omega arith)
  from_low high (x ∷ es) low zero d b l = b.0
  from_low high (x ∷ es) low (suc j) d b l = let later = from_low high es ((g x).0 + 1) j d b.2 (omega arith) in omega arith

  rising : (high : ℕ) (es : List E) (low i j : ℕ) (d : E) → Between low high (map g es) → i ≤ j → j < length es → (g (get_or es i d)).0 ≤ (g (get_or es j d)).0
  rising high [] low i j d b l m = absurd (omega arith)
  rising high (x ∷ es) low zero zero d b l m = omega arith
  rising high (x ∷ es) low zero (suc j) d b l m = let later = from_low high es ((g x).0 + 1) j d b.2 (omega arith) in omega arith
  rising high (x ∷ es) low (suc i) zero d b l m = absurd (omega arith)
  rising high (x ∷ es) low (suc i) (suc j) d b l m = rising high es ((g x).0 + 1) i j d b.2 (omega arith) (omega arith)

  -- a binary search for a number finds its place, or nothing stands at the number
  pub searched_place : (high : ℕ) (es : List E) (low n : ℕ) (r : Result ℕ ℕ) → Between low high (map g es) → IsSearchInRange r (length es)
      → IsBinarySearchResult (λ e. nat_cmp (g e).0 n) es r
      → MatchResult r (λ i. (e : E) × (slice_get es i ≡ Some e) × ((g e).0 ≡ n)) (λ _. at (map g es) n ≡ None)
  searched_place high [] low n (Ok i) b in_range found = absurd (omega arith)
  searched_place high (x ∷ es) low n (Ok i) b in_range found =
      (get_or (x ∷ es) i x, slice_get-get_or (x ∷ es) i x in_range, nat_cmp-IsAntisymmetric (g (get_or (x ∷ es) i x)).0 n (found x))
  searched_place high es low n (Err i) b in_range found =
      let parts = found (λ j k d l m. index-le (g (get_or es j d)).0 (g (get_or es k d)).0 n (rising high es low j k d b l m)) in
      at-no_place es n (λ k d l e.
      let equal : nat_cmp (g (get_or es k d)).0 n ≡ Equal = ap (λ m. nat_cmp m n) e ∙ same n in
      by_side k d (nat_lt k i) refl l equal parts)
    where
      same : (m : ℕ) → nat_cmp m m ≡ Equal
      same m = grind (arith, nat_tests)

      by_side : (k : ℕ) (d : E) (c : Bool) → nat_lt k i ≡ c → k < length es → nat_cmp (g (get_or es k d)).0 n ≡ Equal
          → (((k : ℕ) (d : E) → 0 ≤ k → k < i → nat_cmp (g (get_or es k d)).0 n ≡ Less) × ((k : ℕ) (d : E) → i ≤ k → k < length es → nat_cmp (g (get_or es k d)).0 n ≡ Greater)) → ⊥
      by_side k d true t l equal parts = let less = parts.0 k d (omega arith) (grind (arith, nat_tests)) in cc
      by_side k d false t l equal parts = let greater = parts.1 k d (grind (arith, nat_tests)) l in cc

module _ {K V R : Type 0} (g : V → ℕ × R) where
  -- a write at a place changes the record of its number
  pub edit-place : (high : ℕ) (es : List (K × V)) (low i n : ℕ) (e : K × V) (w : V) (f : R → R) → Between low high (map (λ e. g e.1) es) → slice_get es i ≡ Some e
      → (g e.1).0 ≡ n → g w ≡ (n, f (g e.1).1) → map (λ e. g e.1) (set_value_at es i w) ≡ edit_at (map (λ e. g e.1) es) n f
  edit-place high [] low i n e w f b s p q = absurd (none-some e s)
  edit-place high (x ∷ es) low zero n e w f b s p q =
      let same : x ≡ e = same_Some x e s in
      let number : (g x.1).0 ≡ n = ap (λ y. (g y.1).0) same ∙ p in
      let above = edit_at-above high (map (λ e. g e.1) es) ((g x.1).0 + 1) n f (omega arith) b.2 in
      ap (λ y. y ∷ map (λ e. g e.1) es) (q ∙ (λ j. (sym number j, f (g (sym same j).1).1)))
      ∙ ap (λ ys. ((g x.1).0, f (g x.1).1) ∷ ys) (sym above)
      ∙ sym (ap (λ c. ((g x.1).0, cond c (f (g x.1).1) (g x.1).1) ∷ edit_at (map (λ e. g e.1) es) n f) (eq-eqb (g x.1).0 n number))
  edit-place high (x ∷ es) low (suc i) n e w f b s p q =
      let found = at-place (λ e. g e.1) high es ((g x.1).0 + 1) i n e b.2 s p in
      let later = at-within high (map (λ e. g e.1) es) ((g x.1).0 + 1) n (g e.1).1 b.2 found in
      ap (λ ys. g x.1 ∷ ys) (edit-place high es ((g x.1).0 + 1) i n e w f b.2 s p q)
      ∙ sym (ap (λ c. ((g x.1).0, cond c (f (g x.1).1) (g x.1).1) ∷ edit_at (map (λ e. g e.1) es) n f) (ne_eqb (g x.1).0 n (λ q. absurd (omega arith))))

-- Laws of intercepts that a map keeps by the numbers of their services.
use Rattle.std.proofs.Common.{◌≡◌, ℕ, zero, suc, ◌==◌, nat_lt, Bool, true, false, cond, List, [], ◌∷◌, length, slice_get, Option, Some, refl, sym, ap, arith}
use Rattle.std.proofs.lemmas.Bool.Decides.{nat_tests}
use Rattle.std.proofs.lemmas.Option.{none-some, same_Some}
use Rattle.std.specs.BTreeMap.{insert_entry}
use Rattle.std.specs.List.{last_or}
use Rattle.std.specs.Ordering.{nat_cmp, match_ordering}
use Rattle.std.specs.declared.cmp.Ordering.TheVariants.{Less, Equal, Greater}
use Rattle.ctrl_model.specs.Numbered.{numbers, with_at}

-- an insertion puts a record at its number
pub insert_entry-with_at : {R : Type 0} (es : List (ℕ × R)) (n : ℕ) (r : R) → insert_entry nat_cmp es n r ≡ with_at n r es
insert_entry-with_at [] n r = refl
insert_entry-with_at (e ∷ es) n r = by (nat_lt n e.0) (n == e.0) refl refl (insert_entry-with_at es n r)
  where
    by : (p q : Bool) → nat_lt n e.0 ≡ p → (n == e.0) ≡ q → insert_entry nat_cmp es n r ≡ with_at n r es
        → match_ordering (cond p Less (cond q Equal Greater)) ((n, r) ∷ e ∷ es) ((e.0, r) ∷ es) (e ∷ insert_entry nat_cmp es n r)
        ≡ cond (nat_lt e.0 n) (e ∷ with_at n r es) ((n, r) ∷ cond (e.0 == n) es (e ∷ es))
    by true q s t k = grind (arith, nat_tests)
    by false true s t k = grind (arith, nat_tests)
    by false false s t k = grind (arith, nat_tests)

-- the number of what stands at the last place is the last number
pub last_number : {R : Type 0} (es : List (ℕ × R)) (i n : ℕ) (r : R) (o : Option ℕ) → length es ≡ suc i → slice_get es i ≡ Some (n, r) → Some n ≡ last_or o (numbers es)
last_number [] i n r o l e = absurd (none-some (n, r) e)
last_number {R} (x ∷ []) zero n r o l e = ap (λ (y : ℕ × R). Some y.0) (sym (same_Some x (n, r) e))
last_number (x ∷ []) (suc i) n r o l e = absurd (omega arith)
last_number (x ∷ y ∷ ys) zero n r o l e = absurd (omega arith)
last_number (x ∷ y ∷ ys) (suc i) n r o l e =
    let rest : length (y ∷ ys) ≡ suc i = omega arith in
    last_number (y ∷ ys) i n r (Some x.0) rest e

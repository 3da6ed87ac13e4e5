-- What a step does to a row, and to the rows.
use Rattle.std.proofs.Common.{◌≡◌, ℕ, ◌+◌, ◌<◌, ◌==◌, Bool, true, false, cond, Result, Ok, Err, IfOk, List, [], ◌∷◌, length, get_or, set, refl, sym, ◌∙◌, ap, subst, arith, eqb-true, eq-eqb}
use Rattle.std.specs.List.{insert, remove, AllByRecursion}
use Rattle.std.proofs.lemmas.List.{get_or_default}
use Rattle.std.proofs.lemmas.Bool.Decides.{nat_tests}
use Rattle.std.proofs.lemmas.Grind.{common_steps}
use Rattle.grant_denorm.specs.PairCounts.{count_of, Raises, Lowers}
use Rattle.grant_denorm.specs.FlatRows.{StandsAt, WouldStandAt, IsRow, AreRows, count_in, row_at, pairs_of, RaisesIn, LowersIn}
use Rattle.grant_denorm.proofs.FlatLaws.{value_found, value_read, number_read, value_absent, value_set, value_insert, value_remove, ascends_set, ascends_insert, ascends_remove, all_at, all_set, all_insert, all_remove}
use Rattle.grant_denorm.proofs.FlatCounts.{count_of_pairs, Raises_row, Lowers_row, length_set}

-- ---- one row

pub if_ok_weaker : {T E : Type 0} {P Q : T → Type 0} (r : Result T E) → ((x : T) → P x → Q x) → IfOk r P → IfOk r Q
if_ok_weaker (Ok x) f h = f x h
if_ok_weaker (Err e) f h = tt

pub count_read : (xs : List (ℕ × ℕ)) → IsRow xs → (b i : ℕ) → StandsAt 0 xs b i → (x : ℕ × ℕ) → x ≡ get_or xs i x → count_in xs b ≡ x.1
count_read xs r b i s x e = value_read 0 xs r.ascends b i s x e

pub count_above : (xs : List (ℕ × ℕ)) → IsRow xs → (b i : ℕ) → StandsAt 0 xs b i → 0 < count_in xs b
count_above xs r b i s = subst (λ n. 0 < n) (sym (value_found 0 xs r.ascends b i s)) (all_at (λ (x : ℕ × ℕ). 0 < x.1) xs r.counts i (0, 0) s.in_range)

-- a number that would stand at a place has no count
pub not_counted : (xs ys : List (ℕ × ℕ)) → xs ≡ ys → (b i : ℕ) → WouldStandAt 0 xs b i → 0 < count_in ys b → ⊥
not_counted xs ys e b i w h = let none : count_in ys b ≡ 0 = subst (λ zs. count_in zs b ≡ 0) e (value_absent 0 xs b i w) in absurd (omega (arith, none, h))

-- the count of one number becomes one higher, or one lower
raised : (old new : List (ℕ × ℕ)) (b v : ℕ) → ((q : ℕ) → count_in new q ≡ cond (b == q) v (count_in old q)) → v ≡ count_in old b + 1 → RaisesIn old new b
raised old new b v h e q = h q ∙ at (b == q) refl
  where
    at : (t : Bool) → (b == q) ≡ t → cond t v (count_in old q) ≡ count_in old q + cond (q == b) 1 0
    at true f = e ∙ ap (λ m. count_in old m + 1) (eqb-true b q f) ∙ ap (λ t. count_in old q + cond t 1 0) (sym (eq-eqb q b (sym (eqb-true b q f))))
    at false f = grind (arith, nat_tests, common_steps)

lowered : (old new : List (ℕ × ℕ)) (b v : ℕ) → ((q : ℕ) → count_in new q ≡ cond (b == q) v (count_in old q)) → v + 1 ≡ count_in old b → LowersIn old new b
lowered old new b v h e q = ap (λ n. n + cond (q == b) 1 0) (h q) ∙ at (b == q) refl
  where
    at : (t : Bool) → (b == q) ≡ t → cond t v (count_in old q) + cond (q == b) 1 0 ≡ count_in old q
    at true f = ap (λ t. v + cond t 1 0) (eq-eqb q b (sym (eqb-true b q f))) ∙ e ∙ ap (λ m. count_in old m) (eqb-true b q f)
    at false f = grind (arith, nat_tests, common_steps)

pub raised_row : (xs : List (ℕ × ℕ)) → IsRow xs → (b i v : ℕ) → StandsAt 0 xs b i → v ≡ count_in xs b + 1 → IsRow (set xs i (b, v))
raised_row xs r b i v s e = record {
  ascends = ascends_set 0 xs r.ascends b i s v;
  counts = all_set (λ (x : ℕ × ℕ). 0 < x.1) xs i (b, v) (omega (arith, e)) r.counts;
}

pub raised_count : (xs : List (ℕ × ℕ)) → IsRow xs → (b i v : ℕ) → StandsAt 0 xs b i → v ≡ count_in xs b + 1 → RaisesIn xs (set xs i (b, v)) b
raised_count xs r b i v s e = raised xs (set xs i (b, v)) b v (value_set 0 xs r.ascends b i s v) e

pub put_row : (xs : List (ℕ × ℕ)) → IsRow xs → (b i : ℕ) → WouldStandAt 0 xs b i → IsRow (insert xs i (b, 1))
put_row xs r b i w = record {
  ascends = ascends_insert 0 xs r.ascends b i w 1;
  counts = all_insert (λ (x : ℕ × ℕ). 0 < x.1) xs i (b, 1) (omega arith) r.counts;
}

pub put_count : (xs : List (ℕ × ℕ)) → (b i : ℕ) → WouldStandAt 0 xs b i → RaisesIn xs (insert xs i (b, 1)) b
put_count xs b i w = let none = value_absent 0 xs b i w in raised xs (insert xs i (b, 1)) b 1 (value_insert 0 xs b i w 1) (omega (arith, none))

pub lowered_row : (xs : List (ℕ × ℕ)) → IsRow xs → (b i v : ℕ) → StandsAt 0 xs b i → 0 < v → IsRow (set xs i (b, v))
lowered_row xs r b i v s h = record {
  ascends = ascends_set 0 xs r.ascends b i s v;
  counts = all_set (λ (x : ℕ × ℕ). 0 < x.1) xs i (b, v) h r.counts;
}

pub lowered_count : (xs : List (ℕ × ℕ)) → IsRow xs → (b i v : ℕ) → StandsAt 0 xs b i → v + 1 ≡ count_in xs b → LowersIn xs (set xs i (b, v)) b
lowered_count xs r b i v s e = lowered xs (set xs i (b, v)) b v (value_set 0 xs r.ascends b i s v) e

pub removed_row : (xs : List (ℕ × ℕ)) → IsRow xs → (i : ℕ) → i < length xs → IsRow (remove xs i)
removed_row xs r i h = record {
  ascends = ascends_remove xs i h r.ascends;
  counts = all_remove (λ (x : ℕ × ℕ). 0 < x.1) xs i h r.counts;
}

pub removed_count : (xs : List (ℕ × ℕ)) → IsRow xs → (b i : ℕ) → StandsAt 0 xs b i → count_in xs b ≡ 1 → LowersIn xs (remove xs i) b
removed_count xs r b i s e = lowered xs (remove xs i) b 0 (value_remove 0 xs r.ascends b i s) (sym e)

-- ---- the rows

pub is_row : (rows : List (ℕ × List (ℕ × ℕ))) → AllByRecursion (λ (x : ℕ × List (ℕ × ℕ)). IsRow x.1) rows → (a : ℕ) → IsRow (row_at rows a)
is_row [] h a = record { ascends = tt; counts = tt }
is_row (r ∷ rows) h a = at (r.0 == a) (is_row rows h.1 a)
  where
    at : (t : Bool) → IsRow (row_at rows a) → IsRow (cond t r.1 (row_at rows a))
    at true later = h.0
    at false later = later

-- the row that is read at a place has the counts of its left number
pub row_count : (rows : List (ℕ × List (ℕ × ℕ))) → AreRows rows → (a i : ℕ) → StandsAt [] rows a i → (x : ℕ × List (ℕ × ℕ)) → x ≡ get_or rows i x → (b : ℕ)
    → count_of (pairs_of rows) a b ≡ count_in x.1 b
row_count rows r a i s x e b = count_of_pairs rows r.ascends a b ∙ ap (λ row. count_in row b) (value_read [] rows r.ascends a i s x e)

-- a left number that would stand at a place has no pairs
pub no_pairs : (rows : List (ℕ × List (ℕ × ℕ))) → AreRows rows → (a i : ℕ) → WouldStandAt [] rows a i → (b : ℕ) → count_of (pairs_of rows) a b ≡ 0
no_pairs rows r a i w b = count_of_pairs rows r.ascends a b ∙ ap (λ row. count_in row b) (value_absent [] rows a i w)

pub not_paired : (rows seen : List (ℕ × List (ℕ × ℕ))) (es : List ((ℕ × ℕ) × ℕ)) → AreRows rows → seen ≡ rows → pairs_of rows ≡ es → (a b i : ℕ) → WouldStandAt [] seen a i → 0 < count_of es a b → ⊥
not_paired rows seen es r e f a b i w h =
    let none : count_of es a b ≡ 0 = subst (λ xs. count_of xs a b ≡ 0) f (no_pairs rows r a i (subst (λ xs. WouldStandAt [] xs a i) e w) b) in
    absurd (omega (arith, none, h))

pub AreRows_set : (rows : List (ℕ × List (ℕ × ℕ))) → AreRows rows → (a i : ℕ) (row : List (ℕ × ℕ)) → StandsAt [] rows a i → IsRow row → AreRows (set rows i (a, row))
AreRows_set rows r a i row s h = record {
  ascends = ascends_set [] rows r.ascends a i s row;
  each = all_set (λ (x : ℕ × List (ℕ × ℕ)). IsRow x.1) rows i (a, row) h r.each;
}

pub AreRows_insert : (rows : List (ℕ × List (ℕ × ℕ))) → AreRows rows → (a i : ℕ) (row : List (ℕ × ℕ)) → WouldStandAt [] rows a i → IsRow row → AreRows (insert rows i (a, row))
AreRows_insert rows r a i row w h = record {
  ascends = ascends_insert [] rows r.ascends a i w row;
  each = all_insert (λ (x : ℕ × List (ℕ × ℕ)). IsRow x.1) rows i (a, row) h r.each;
}

pub AreRows_remove : (rows : List (ℕ × List (ℕ × ℕ))) → AreRows rows → (i : ℕ) → i < length rows → AreRows (remove rows i)
AreRows_remove rows r i h = record {
  ascends = ascends_remove rows i h r.ascends;
  each = all_remove (λ (x : ℕ × List (ℕ × ℕ)). IsRow x.1) rows i h r.each;
}

-- ---- one row takes the place of another with the same left number

pub record Replaces (rows : List (ℕ × List (ℕ × ℕ))) (a i : ℕ) (old new : ℕ × List (ℕ × ℕ)) : Type 0 where
  pub before : AreRows rows
  pub place : StandsAt [] rows a i
  pub read : old ≡ get_or rows i old
  pub left : new.0 ≡ old.0

replaced : (rows : List (ℕ × List (ℕ × ℕ))) (a i : ℕ) (old new : ℕ × List (ℕ × ℕ)) → Replaces rows a i old new → set rows i (a, new.1) ≡ set rows i new
replaced rows a i old new w = ap (λ n. set rows i (n, new.1)) (sym (w.left ∙ number_read [] rows a i w.place old w.read))

pub AreRows_replaced : (rows : List (ℕ × List (ℕ × ℕ))) (a i : ℕ) (old new : ℕ × List (ℕ × ℕ)) → Replaces rows a i old new → IsRow new.1 → AreRows (set rows i new)
AreRows_replaced rows a i old new w h = subst AreRows (replaced rows a i old new w) (AreRows_set rows w.before a i new.1 w.place h)

pub Raises_replaced : (rows : List (ℕ × List (ℕ × ℕ))) (a i : ℕ) (old new : ℕ × List (ℕ × ℕ)) → Replaces rows a i old new → (b : ℕ) → RaisesIn old.1 new.1 b → Raises (pairs_of rows) (pairs_of (set rows i new)) a b
Raises_replaced rows a i old new w b h =
    subst (λ xs. Raises (pairs_of rows) (pairs_of xs) a b) (replaced rows a i old new w)
    (Raises_row rows (set rows i (a, new.1)) a b new.1 w.before.ascends (ascends_set [] rows w.before.ascends a i w.place new.1)
    (value_set [] rows w.before.ascends a i w.place new.1) (subst (λ row. RaisesIn row new.1 b) (sym (value_read [] rows w.before.ascends a i w.place old w.read)) h))

pub Lowers_replaced : (rows : List (ℕ × List (ℕ × ℕ))) (a i : ℕ) (old new : ℕ × List (ℕ × ℕ)) → Replaces rows a i old new → (b : ℕ) → LowersIn old.1 new.1 b → Lowers (pairs_of rows) (pairs_of (set rows i new)) a b
Lowers_replaced rows a i old new w b h =
    subst (λ xs. Lowers (pairs_of rows) (pairs_of xs) a b) (replaced rows a i old new w)
    (Lowers_row rows (set rows i (a, new.1)) a b new.1 w.before.ascends (ascends_set [] rows w.before.ascends a i w.place new.1)
    (value_set [] rows w.before.ascends a i w.place new.1) (subst (λ row. LowersIn row new.1 b) (sym (value_read [] rows w.before.ascends a i w.place old w.read)) h))

pub length_replaced : (rows : List (ℕ × List (ℕ × ℕ))) (a i : ℕ) (old new : ℕ × List (ℕ × ℕ)) → Replaces rows a i old new
    → length (pairs_of (set rows i new)) + length old.1 ≡ length (pairs_of rows) + length new.1
length_replaced rows a i old new w =
    subst (λ (x : ℕ × List (ℕ × ℕ)). length (pairs_of (set rows i new)) + length x.1 ≡ length (pairs_of rows) + length new.1) (sym (w.read ∙ get_or_default rows i old (0, []) w.place.in_range))
    (length_set rows i new.0 new.1 w.place.in_range)

-- ---- a row of one pair comes in

one_row : (b : ℕ) → IsRow ((b, 1) ∷ [])
one_row b = record { ascends = (tt, tt); counts = (omega arith, tt) }

pub AreRows_put : (rows : List (ℕ × List (ℕ × ℕ))) → AreRows rows → (a i b : ℕ) → WouldStandAt [] rows a i → AreRows (insert rows i (a, (b, 1) ∷ []))
AreRows_put rows r a i b w = AreRows_insert rows r a i ((b, 1) ∷ []) w (one_row b)

pub Raises_put : (rows : List (ℕ × List (ℕ × ℕ))) → AreRows rows → (a i b : ℕ) → WouldStandAt [] rows a i → Raises (pairs_of rows) (pairs_of (insert rows i (a, (b, 1) ∷ []))) a b
Raises_put rows r a i b w =
    Raises_row rows (insert rows i (a, (b, 1) ∷ [])) a b ((b, 1) ∷ []) r.ascends (ascends_insert [] rows r.ascends a i w ((b, 1) ∷ [])) (value_insert [] rows a i w ((b, 1) ∷ []))
    (subst (λ row. RaisesIn row ((b, 1) ∷ []) b) (sym (value_absent [] rows a i w)) (raised [] ((b, 1) ∷ []) b 1 (λ q. refl) refl))

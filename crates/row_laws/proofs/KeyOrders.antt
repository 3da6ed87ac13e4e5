-- Laws on the order of keys: it is total, it tells keys apart, and it is the order of their bytes.
use Rattle.std.proofs.Common.{◌≡◌, ℕ, ◌+◌, ◌*◌, ◌<◌, ◌≤◌, ◌^◌, ◌%◌, ◌/◌, ◌==◌, nat_lt, nat_le, ◌&&◌, Bool, true, false, cond, ◌⊎◌, inl, inr, List, [], ◌∷◌, ◌++◌, refl, sym, ◌∙◌, ap, ap₂, subst, arith, eqb-true, eq-eqb, ne_eqb, lt-ltb, le-ltb, ltb-true, w32, Ordering, Less, Equal, Greater, is_eq, nat_cmp}
use Rattle.std.proofs.lemmas.Bool.{and_parts, cases_order, cond-true, cond-false}
use Rattle.std.proofs.lemmas.Cmp.{nat_cmp_total, on_total, then_total}
use Rattle.std.specs.Cmp.{IsTotalOrder, tied_then}
use Rattle.std.specs.Cmp.Lexicographic.{slice_cmp}
use Rattle.std.specs.FinMap.{IsAntisymmetric}
use Rattle.std.specs.Int.{to_be_bytes}
use Rattle.std.specs.Ordering.{ordering_then}
use Rattle.ctrl_model.specs.Limits.{last_next}
use Rattle.row_codec.specs.RowKeys.{Key, key_cmp, key_bytes, is_key, is_long, number_in_key}
use Rattle.row_codec.specs.Batches.{bytes_cmp}

-- ---- two numbers

pub nat_cmp-less : (a b : ℕ) → a < b → nat_cmp a b ≡ Less
nat_cmp-less a b h = cond-true (nat_lt a b) Less (cond (a == b) Equal Greater) (lt-ltb a b h)

pub nat_cmp-equal : (a b : ℕ) → a ≡ b → nat_cmp a b ≡ Equal
nat_cmp-equal a b e =
    cond-false (nat_lt a b) Less (cond (a == b) Equal Greater) (le-ltb a b (omega arith)) ∙ cond-true (a == b) Equal Greater (eq-eqb a b e)

pub nat_cmp-greater : (a b : ℕ) → b < a → nat_cmp a b ≡ Greater
nat_cmp-greater a b h =
    cond-false (nat_lt a b) Less (cond (a == b) Equal Greater) (le-ltb a b (omega arith))
    ∙ cond-false (a == b) Equal Greater (ne_eqb a b (λ e. absurd (omega arith)))

pub is_eq-nat_cmp : (a b : ℕ) → is_eq (nat_cmp a b) ≡ (a == b)
is_eq-nat_cmp a b = by (cases_order a b)
  where
    by : (a ≡ b) ⊎ ((a < b) ⊎ (b < a)) → is_eq (nat_cmp a b) ≡ (a == b)
    by (inl e) = ap is_eq (nat_cmp-equal a b e) ∙ sym (eq-eqb a b e)
    by (inr (inl h)) = ap is_eq (nat_cmp-less a b h) ∙ sym (ne_eqb a b (λ e. absurd (omega arith)))
    by (inr (inr h)) = ap is_eq (nat_cmp-greater a b h) ∙ sym (ne_eqb a b (λ e. absurd (omega arith)))

-- a number up to the last next number fits
pub long_upto : (n : ℕ) → n ≤ last_next → is_long n ≡ true
long_upto n h = let below : n < 4294967296 = omega arith in lt-ltb n (2 ^ 32) below

-- ---- the order of keys

pub key_total : IsTotalOrder key_cmp
key_total =
    then_total (on_total (λ (k : Key). k.0) nat_cmp_total)
    (then_total (on_total (λ (k : Key). k.1) nat_cmp_total) (on_total (λ (k : Key). k.2) nat_cmp_total))

pub is_eq-key_cmp : (x y : Key) → is_eq (key_cmp x y) ≡ ((x.0 == y.0) && ((x.1 == y.1) && (x.2 == y.2)))
is_eq-key_cmp x y =
    sym (tied_then (nat_cmp x.0 y.0) (ordering_then (nat_cmp x.1 y.1) (nat_cmp x.2 y.2)))
    ∙ ap₂ (λ b c. b && c) (is_eq-nat_cmp x.0 y.0)
    (sym (tied_then (nat_cmp x.1 y.1) (nat_cmp x.2 y.2)) ∙ ap₂ (λ b c. b && c) (is_eq-nat_cmp x.1 y.1) (is_eq-nat_cmp x.2 y.2))

pub key_exact : IsAntisymmetric key_cmp
key_exact x y e =
    let all = sym (is_eq-key_cmp x y) ∙ ap is_eq e in
    let first = and_parts (x.0 == y.0) ((x.1 == y.1) && (x.2 == y.2)) all in
    let others = and_parts (x.1 == y.1) (x.2 == y.2) first.1 in
    let a = eqb-true x.0 y.0 first.0 in
    let b = eqb-true x.1 y.1 others.0 in
    let c = eqb-true x.2 y.2 others.1 in
    λ i. (a i, b i, c i)

-- a key of an earlier table comes first; in one table the first number decides, then the second
pub less_by_table : (p q : Key) → p.0 < q.0 → key_cmp p q ≡ Less
less_by_table p q h = ap (λ c. ordering_then c (ordering_then (nat_cmp p.1 q.1) (nat_cmp p.2 q.2))) (nat_cmp-less p.0 q.0 h)

pub less_by_first : (p q : Key) → p.0 ≡ q.0 → p.1 < q.1 → key_cmp p q ≡ Less
less_by_first p q e h =
    ap (λ c. ordering_then c (ordering_then (nat_cmp p.1 q.1) (nat_cmp p.2 q.2))) (nat_cmp-equal p.0 q.0 e)
    ∙ ap (λ c. ordering_then c (nat_cmp p.2 q.2)) (nat_cmp-less p.1 q.1 h)

pub less_by_second : (p q : Key) → p.0 ≡ q.0 → p.1 ≡ q.1 → p.2 < q.2 → key_cmp p q ≡ Less
less_by_second p q e f h =
    ap (λ c. ordering_then c (ordering_then (nat_cmp p.1 q.1) (nat_cmp p.2 q.2))) (nat_cmp-equal p.0 q.0 e)
    ∙ ap (λ c. ordering_then c (nat_cmp p.2 q.2)) (nat_cmp-equal p.1 q.1 f) ∙ nat_cmp-less p.2 q.2 h

-- ---- the order of numbers is that of their bytes, the greatest first

digit : (q r p s : ℕ) (o : Ordering) → r < 256 → s < 256
    → ordering_then (nat_cmp q p) (ordering_then (nat_cmp r s) o) ≡ ordering_then (nat_cmp (q * 256 + r) (p * 256 + s)) o
digit q r p s o h k = by (cases_order q p) (cases_order r s)
  where
    by : (q ≡ p) ⊎ ((q < p) ⊎ (p < q)) → (r ≡ s) ⊎ ((r < s) ⊎ (s < r))
        → ordering_then (nat_cmp q p) (ordering_then (nat_cmp r s) o) ≡ ordering_then (nat_cmp (q * 256 + r) (p * 256 + s)) o
    by (inl e) (inl f) =
        let same : q * 256 + r ≡ p * 256 + s = omega arith in
        rw (nat_cmp-equal q p e, nat_cmp-equal r s f, nat_cmp-equal (q * 256 + r) (p * 256 + s) same) refl
    by (inl e) (inr (inl f)) =
        let less : q * 256 + r < p * 256 + s = omega arith in
        rw (nat_cmp-equal q p e, nat_cmp-less r s f, nat_cmp-less (q * 256 + r) (p * 256 + s) less) refl
    by (inl e) (inr (inr f)) =
        let more : p * 256 + s < q * 256 + r = omega arith in
        rw (nat_cmp-equal q p e, nat_cmp-greater r s f, nat_cmp-greater (q * 256 + r) (p * 256 + s) more) refl
    by (inr (inl e)) f =
        let less : q * 256 + r < p * 256 + s = omega arith in rw (nat_cmp-less q p e, nat_cmp-less (q * 256 + r) (p * 256 + s) less) refl
    by (inr (inr e)) f =
        let more : p * 256 + s < q * 256 + r = omega arith in rw (nat_cmp-greater q p e, nat_cmp-greater (q * 256 + r) (p * 256 + s) more) refl

-- a number below 2 ^ 32 by its four bytes
four_bytes : (n : ℕ) → is_long n ≡ true → n ≡ ((n / 16777216 % 256 * 256 + n / 65536 % 256) * 256 + n / 256 % 256) * 256 + n % 256
four_bytes n h =
    let below : n < 4294967296 = ltb-true n (2 ^ 32) h in
    omega arith

pub be_order : (m n : ℕ) (xs ys : List ℕ) → is_long m ≡ true → is_long n ≡ true
    → slice_cmp nat_cmp (to_be_bytes w32 m ++ xs) (to_be_bytes w32 n ++ ys) ≡ ordering_then (nat_cmp m n) (slice_cmp nat_cmp xs ys)
be_order m n xs ys h k =
    let o = slice_cmp nat_cmp xs ys in
    let d : (i : ℕ) → i % 256 < 256 = λ i. omega arith in
    let m3 = m / 16777216 % 256 in let m2 = m / 65536 % 256 in let m1 = m / 256 % 256 in let m0 = m % 256 in
    let n3 = n / 16777216 % 256 in let n2 = n / 65536 % 256 in let n1 = n / 256 % 256 in let n0 = n % 256 in
    digit m3 m2 n3 n2 (ordering_then (nat_cmp m1 n1) (ordering_then (nat_cmp m0 n0) o)) (d (m / 65536)) (d (n / 65536))
    ∙ digit (m3 * 256 + m2) m1 (n3 * 256 + n2) n1 (ordering_then (nat_cmp m0 n0) o) (d (m / 256)) (d (n / 256))
    ∙ digit ((m3 * 256 + m2) * 256 + m1) m0 ((n3 * 256 + n2) * 256 + n1) n0 o (d m) (d n)
    ∙ ap₂ (λ a b. ordering_then (nat_cmp a b) o) (sym (four_bytes m h)) (sym (four_bytes n k))

-- ---- the order of keys is that of their bytes

abbrev bytes_after : (u v w x y : Bool) → ℕ → ℕ → List ℕ
bytes_after u v w x y a b = cond u (a ∷ []) (cond v [] (cond w (number_in_key a) (cond x (number_in_key a ++ number_in_key b) (cond y (number_in_key a) []))))

abbrev fits_after : (u v w x y : Bool) → ℕ → ℕ → Bool
fits_after u v w x y a b =
    cond u (nat_le 1 a && (nat_le a 9 && b == 0)) (cond v (a == 0 && b == 0) (cond w (is_long a && b == 0)
    (cond x (is_long a && is_long b) (cond y (is_long a && b == 0) (a == 0 && b == 0)))))

both_zero : (b d : ℕ) → (b == 0) ≡ true → (d == 0) ≡ true → Equal ≡ nat_cmp b d
both_zero b d e f = sym (nat_cmp-equal b d (eqb-true b 0 e ∙ sym (eqb-true d 0 f)))

-- keys without numbers, and keys of one number
no_numbers : (a b c d : ℕ) → (a == 0 && b == 0) ≡ true → (c == 0 && d == 0) ≡ true → Equal ≡ ordering_then (nat_cmp a c) (nat_cmp b d)
no_numbers a b c d h k =
    let p = and_parts (a == 0) (b == 0) h in
    let q = and_parts (c == 0) (d == 0) k in
    both_zero b d p.1 q.1 ∙ ap (λ o. ordering_then o (nat_cmp b d)) (both_zero a c p.0 q.0)

one_number : (a b c d : ℕ) → (is_long a && b == 0) ≡ true → (is_long c && d == 0) ≡ true
    → slice_cmp nat_cmp (number_in_key a) (number_in_key c) ≡ ordering_then (nat_cmp a c) (nat_cmp b d)
one_number a b c d h k =
    let p = and_parts (is_long a) (b == 0) h in
    let q = and_parts (is_long c) (d == 0) k in
    be_order a c [] [] p.0 q.0 ∙ ap (λ o. ordering_then (nat_cmp a c) o) (both_zero b d p.1 q.1)

order_after : (u v w x y : Bool) (a b c d : ℕ) → fits_after u v w x y a b ≡ true → fits_after u v w x y c d ≡ true
    → slice_cmp nat_cmp (bytes_after u v w x y a b) (bytes_after u v w x y c d) ≡ ordering_then (nat_cmp a c) (nat_cmp b d)
order_after true v w x y a b c d h k =
    ap (λ o. ordering_then (nat_cmp a c) o)
    (both_zero b d (and_parts (nat_le a 9) (b == 0) (and_parts (nat_le 1 a) (nat_le a 9 && b == 0) h).1).1
    (and_parts (nat_le c 9) (d == 0) (and_parts (nat_le 1 c) (nat_le c 9 && d == 0) k).1).1)
order_after false true w x y a b c d h k = no_numbers a b c d h k
order_after false false true x y a b c d h k = one_number a b c d h k
order_after false false false true y a b c d h k =
    let p = and_parts (is_long a) (is_long b) h in
    let q = and_parts (is_long c) (is_long d) k in
    be_order a c (number_in_key b) (number_in_key d) p.0 q.0
    ∙ ap (λ o. ordering_then (nat_cmp a c) o) (be_order b d [] [] p.1 q.1 ∙ last (nat_cmp b d))
  where
    last : (o : Ordering) → ordering_then o Equal ≡ o
    last Less = refl
    last Equal = refl
    last Greater = refl
order_after false false false false true a b c d h k = one_number a b c d h k
order_after false false false false false a b c d h k = no_numbers a b c d h k

-- what stands behind the number of a table, and whether it is that of a key
abbrev bytes_in : ℕ → ℕ → ℕ → List ℕ
bytes_in t a b = bytes_after (t == 1) (t == 2) (nat_lt t 12) (nat_lt t 16) (t == 16) a b

abbrev fits_in : ℕ → ℕ → ℕ → Bool
fits_in t a b = fits_after (t == 1) (t == 2) (nat_lt t 12) (nat_lt t 16) (t == 16) a b

after_table : (k : Key) → is_key k ≡ true → fits_in k.0 k.1 k.2 ≡ true
after_table k h =
    let rest = fits_in k.0 k.1 k.2 in (and_parts (nat_le k.0 17) rest (and_parts (nat_le 1 k.0) (nat_le k.0 17 && rest) h).1).1

pub bytes_order : (k l : Key) → is_key k ≡ true → is_key l ≡ true → bytes_cmp (key_bytes k) (key_bytes l) ≡ key_cmp k l
bytes_order k l h j = by (cases_order k.0 l.0)
  where
    by : (k.0 ≡ l.0) ⊎ ((k.0 < l.0) ⊎ (l.0 < k.0)) → bytes_cmp (key_bytes k) (key_bytes l) ≡ key_cmp k l
    by (inl e) =
        ap (λ o. ordering_then (nat_cmp k.0 l.0) o)
        (ap (λ t. slice_cmp nat_cmp (bytes_in k.0 k.1 k.2) (bytes_in t l.1 l.2)) (sym e)
        ∙ order_after (k.0 == 1) (k.0 == 2) (nat_lt k.0 12) (nat_lt k.0 16) (k.0 == 16) k.1 k.2 l.1 l.2 (after_table k h)
        (subst (λ t. fits_in t l.1 l.2 ≡ true) (sym e) (after_table l j)))
    by (inr (inl less)) = rw (nat_cmp-less k.0 l.0 less) refl
    by (inr (inr more)) = rw (nat_cmp-greater k.0 l.0 more) refl

-- Things that stand one behind the other: as a loop takes them, and those of a list.
use Rattle.std.proofs.Common.{◌≡◌, ℕ, zero, suc, ◌-◌, ◌+◌, ◌≤◌, ◌<◌, Bool, true, false, not, ◌&&◌, ◌||◌, leb, List, [], ◌∷◌, ◌++◌, Option, Some, None, refl, sym, ap, ◌∙◌, append_assoc, append-nil, arith}
use Rattle.std.specs.List.{list_any}
use Rattle.std.specs.Option.{option_map}
use Rattle.ctrl_model.specs.InterceptForm.{is_without_repeats}
use Rattle.row_codec.specs.FieldReading.{Front, front_each, front_list, behind}
use Rattle.row_codec.proofs.FieldLaws.{some_is}
use Rattle.row_reading.specs.RowReading.{things_in, things_of}

-- ---- one after the other

pub goes_on : {A : Type 0} (f : List ℕ → Front A) (front : List A) (count i : ℕ) (bytes : List ℕ) (x : A) (after : List ℕ) (total : List A) → i < count → f bytes ≡ Some (x, after)
    → front ++ things_in f (count - i) bytes ≡ total → (front ++ x ∷ []) ++ things_in f (count - (i + 1)) after ≡ total
goes_on {A = A} f front count i bytes x after total lt h so_far =
    let k : count - i ≡ suc (count - (i + 1)) = omega arith in
    let one : things_in f (count - i) bytes ≡ x ∷ things_in f (count - (i + 1)) after = rw (k, h) refl in
    append_assoc front (x ∷ []) (things_in f (count - (i + 1)) after) ∙ ap (λ (ys : List A). front ++ ys) (sym one) ∙ so_far

pub ends : {A : Type 0} (f : List ℕ → Front A) (front : List A) (count i : ℕ) (bytes : List ℕ) (total : List A) → i < count → f bytes ≡ None
    → front ++ things_in f (count - i) bytes ≡ total → front ≡ total
ends {A = A} f front count i bytes total lt h so_far =
    let k : count - i ≡ suc (count - (i + 1)) = omega arith in
    let one : things_in f (count - i) bytes ≡ [] = rw (k, h) refl in
    sym (append-nil front) ∙ ap (λ (ys : List A). front ++ ys) (sym one) ∙ so_far

pub is_done : {A : Type 0} (f : List ℕ → Front A) (front : List A) (count i : ℕ) (bytes : List ℕ) (total : List A) → count ≤ i
    → front ++ things_in f (count - i) bytes ≡ total → front ≡ total
is_done {A = A} f front count i bytes total le so_far =
    let k : count - i ≡ 0 = omega arith in
    let one : things_in f (count - i) bytes ≡ [] = rw k refl in
    sym (append-nil front) ∙ ap (λ (ys : List A). front ++ ys) (sym one) ∙ so_far

-- ---- whether one of them passes a test

module _ {A : Type 0} (g : A → Bool) (f : List ℕ → Front A) (count i : ℕ) (bytes : List ℕ) (total : Bool) (so_far : list_any g (things_in f (count - i) bytes) ≡ total) where
  pub any_on : (x : A) (after : List ℕ) → i < count → f bytes ≡ Some (x, after) → g x ≡ false → list_any g (things_in f (count - (i + 1)) after) ≡ total
  any_on x after lt h fails =
      let k : count - i ≡ suc (count - (i + 1)) = omega arith in
      let one : things_in f (count - i) bytes ≡ x ∷ things_in f (count - (i + 1)) after = rw (k, h) refl in
      ap (λ b. b || list_any g (things_in f (count - (i + 1)) after)) (sym fails) ∙ ap (list_any g) (sym one) ∙ so_far

  pub any_found : (x : A) (after : List ℕ) → i < count → f bytes ≡ Some (x, after) → g x ≡ true → true ≡ total
  any_found x after lt h holds =
      let k : count - i ≡ suc (count - (i + 1)) = omega arith in
      let one : things_in f (count - i) bytes ≡ x ∷ things_in f (count - (i + 1)) after = rw (k, h) refl in
      ap (λ b. b || list_any g (things_in f (count - (i + 1)) after)) (sym holds) ∙ ap (list_any g) (sym one) ∙ so_far

  pub any_ends : i < count → f bytes ≡ None → false ≡ total
  any_ends lt h =
      let k : count - i ≡ suc (count - (i + 1)) = omega arith in
      let one : things_in f (count - i) bytes ≡ [] = rw (k, h) refl in ap (list_any g) (sym one) ∙ so_far

  pub any_done : count ≤ i → false ≡ total
  any_done le =
      let k : count - i ≡ 0 = omega arith in
      let one : things_in f (count - i) bytes ≡ [] = rw k refl in ap (list_any g) (sym one) ∙ so_far

-- ---- whether none of them is the same as a later one

module _ {A : Type 0} (same : A → A → Bool) (f : List ℕ → Front A) (count i : ℕ) (bytes : List ℕ) (total : Bool) (so_far : is_without_repeats same (things_in f (count - i) bytes) ≡ total) where
  pub differ_on : (x : A) (after : List ℕ) → i < count → f bytes ≡ Some (x, after) → list_any (same x) (things_in f (count - (i + 1)) after) ≡ false
      → is_without_repeats same (things_in f (count - (i + 1)) after) ≡ total
  differ_on x after lt h fails =
      let k : count - i ≡ suc (count - (i + 1)) = omega arith in
      let one : things_in f (count - i) bytes ≡ x ∷ things_in f (count - (i + 1)) after = rw (k, h) refl in
      ap (λ b. not b && is_without_repeats same (things_in f (count - (i + 1)) after)) (sym fails) ∙ ap (is_without_repeats same) (sym one) ∙ so_far

  pub differ_found : (x : A) (after : List ℕ) → i < count → f bytes ≡ Some (x, after) → list_any (same x) (things_in f (count - (i + 1)) after) ≡ true → false ≡ total
  differ_found x after lt h holds =
      let k : count - i ≡ suc (count - (i + 1)) = omega arith in
      let one : things_in f (count - i) bytes ≡ x ∷ things_in f (count - (i + 1)) after = rw (k, h) refl in
      ap (λ b. not b && is_without_repeats same (things_in f (count - (i + 1)) after)) (sym holds) ∙ ap (is_without_repeats same) (sym one) ∙ so_far

  pub differ_ends : i < count → f bytes ≡ None → true ≡ total
  differ_ends lt h =
      let k : count - i ≡ suc (count - (i + 1)) = omega arith in
      let one : things_in f (count - i) bytes ≡ [] = rw (k, h) refl in ap (is_without_repeats same) (sym one) ∙ so_far

  pub differ_done : count ≤ i → true ≡ total
  differ_done le =
      let k : count - i ≡ 0 = omega arith in
      let one : things_in f (count - i) bytes ≡ [] = rw k refl in ap (is_without_repeats same) (sym one) ∙ so_far

-- ---- the things of a list, where what follows it is known

-- some things, where bytes follow them
abbrev with_rest : {A : Type 0} → List A → Option (List ℕ) → Front (List A)
with_rest xs rest = option_map (λ r. (xs, r)) rest

one_more : {A : Type 0} (x : A) (xs : List A) (o : Front (List A)) → with_rest xs (behind o) ≡ o
    → with_rest (x ∷ xs) (behind (option_map {U = List A × List ℕ} (λ y. (x ∷ y.0, y.1)) o)) ≡ option_map {U = List A × List ℕ} (λ y. (x ∷ y.0, y.1)) o
one_more x xs None e = refl
one_more {A = A} x xs (Some y) e = ap (λ (z : List A × List ℕ). joined z) (some_is (xs, y.1) y e)
  where
    joined : List A × List ℕ → Front (List A)
    joined z = Some (x ∷ z.0, z.1)

each_seen : {A : Type 0} (f : List ℕ → Front A) (n : ℕ) (bytes : List ℕ) → with_rest (things_in f n bytes) (behind (front_each f n bytes)) ≡ front_each f n bytes
each_seen f zero bytes = refl
each_seen {A = A} f (suc n) bytes = by (f bytes) refl (λ after. each_seen f n after)
  where
    by : (o : Front A) → f bytes ≡ o → ((after : List ℕ) → with_rest (things_in f n after) (behind (front_each f n after)) ≡ front_each f n after)
        → with_rest (things_in f (suc n) bytes) (behind (front_each f (suc n) bytes)) ≡ front_each f (suc n) bytes
    by None e later = rw e refl
    by (Some x) e later = rw e (one_more x.0 (things_in f n x.1) (front_each f n x.1) (later x.1))

list_seen : {A : Type 0} (most : ℕ) (f : List ℕ → Front A) (bytes : List ℕ) → with_rest (things_of f bytes) (behind (front_list most f bytes)) ≡ front_list most f bytes
list_seen most f [] = refl
list_seen {A = A} most f (n ∷ bytes) = by (leb n most) refl
  where
    by : (b : Bool) → leb n most ≡ b → with_rest (things_of f (n ∷ bytes)) (behind (front_list most f (n ∷ bytes))) ≡ front_list most f (n ∷ bytes)
    by true e = rw e (each_seen f n bytes)
    by false e = rw e refl

pub list_at : {A : Type 0} (most : ℕ) (f : List ℕ → Front A) (bytes rest : List ℕ) → Some rest ≡ behind (front_list most f bytes) → Some (things_of f bytes, rest) ≡ front_list most f bytes
list_at {A = A} most f bytes rest e = ap (λ (o : Option (List ℕ)). with_rest (things_of f bytes) o) e ∙ list_seen most f bytes

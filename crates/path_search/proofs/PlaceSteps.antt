-- Steps stand by the places that they leave: those of the places before one stand before its own.
use Rattle.std.proofs.Common.{◌≡◌, ℕ, ◌+◌, ◌<◌, ◌≤◌, Bool, cond, true, false, List, [], ◌∷◌, length, drop, get_or, nat_lt, ◌==◌, ◌&&◌, refl, sym, ◌∙◌, ap, arith, suc, zero, Some}
use Rattle.std.proofs.lemmas.Bool.{and_parts}
use Rattle.std.proofs.lemmas.Bool.Decides.{nat_tests}
use Rattle.std.specs.List.{AllByRecursion, find, list_all, prefix_len}
use Rattle.path_certificate.specs.declared.graph.Step.{Step}
use Rattle.path_certificate.specs.Graphs.{before, is_ordered}
use Rattle.path_search.specs.Supports.{falls_from}

-- ---- what a search passes over

one_more : (n : ℕ) → 1 + n ≡ suc n
one_more n = omega arith

-- behind those that fail, a search finds what it finds among all
pub find_behind : {X : Type 0} (p q : X → Bool) → ((x : X) → q x ≡ true → p x ≡ false) → (xs : List X) → find p (drop (prefix_len q xs) xs) ≡ find p xs
find_behind p q apart [] = refl
find_behind p q apart (x ∷ xs) = at (q x) refl (find_behind p q apart xs)
  where
    at : (b : Bool) → q x ≡ b → find p (drop (prefix_len q xs) xs) ≡ find p xs → find p (drop (cond b (1 + prefix_len q xs) 0) (x ∷ xs)) ≡ find p (x ∷ xs)
    at true e behind = ap (λ n. find p (drop n (x ∷ xs))) (one_more (prefix_len q xs)) ∙ behind ∙ sym (ap (λ t. cond t (Some x) (find p xs)) (apart x e))
    at false e behind = refl

-- what holds of each holds of those behind some
pub each_behind : {X : Type 0} (P : X → Type 0) (n : ℕ) (xs : List X) → AllByRecursion P xs → AllByRecursion P (drop n xs)
each_behind P zero xs h = h
each_behind P (suc n) [] h = h
each_behind P (suc n) (x ∷ xs) h = each_behind P n xs h.1

-- ---- places rise

place_before : (s u : Step) → before s u ≡ true → s.from ≤ u.from
place_before s u e = grind (arith, nat_tests)

later_place : (x : Step) (xs : List Step) (j : ℕ) (d : Step) → list_all (before x) xs ≡ true → j < length xs → x.from ≤ (get_or xs j d).from
later_place x [] j d e l = absurd (omega arith)
later_place x (y ∷ xs) zero d e l = place_before x y (and_parts (before x y) (list_all (before x) xs) e).0
later_place x (y ∷ xs) (suc j) d e l = later_place x xs j d (and_parts (before x y) (list_all (before x) xs) e).1 (omega arith)

-- a step leaves no place behind that of a later step
pub places_rise : (xs : List Step) (i j : ℕ) (d : Step) → is_ordered xs ≡ true → i ≤ j → j < length xs → (get_or xs i d).from ≤ (get_or xs j d).from
places_rise [] i j d o le l = absurd (omega arith)
places_rise (x ∷ xs) zero zero d o le l = omega arith
places_rise (x ∷ xs) zero (suc j) d o le l = later_place x xs j d (and_parts (list_all (before x) xs) (is_ordered xs) o).0 (omega arith)
places_rise (x ∷ xs) (suc i) zero d o le l = absurd (omega arith)
places_rise (x ∷ xs) (suc i) (suc j) d o le l = places_rise xs i j d (and_parts (list_all (before x) xs) (is_ordered xs) o).1 (omega arith) (omega arith)

-- so a step before one that leaves a place before some place does so too
pub before_rises : (v : ℕ) (xs : List Step) (i j : ℕ) (d : Step) → is_ordered xs ≡ true → i ≤ j → j < length xs → nat_lt (get_or xs j d).from v ≡ true → nat_lt (get_or xs i d).from v ≡ true
before_rises v xs i j d o le l e =
    let rise = places_rise xs i j d o le l in
    grind (arith, nat_tests)

-- ---- the tight steps from a place

elsewhere : (a v : ℕ) (b c d : Bool) → nat_lt a v ≡ true → ((a == v) && b && c && d) ≡ false
elsewhere a v b c d e = grind (arith, nat_tests)

-- they stand behind the steps from the places before it
pub falls_behind : (through : List Bool) (t : ℕ) (p : List ℕ) (v : ℕ) (xs : List Step)
    → find (falls_from through t p v) (drop (prefix_len (λ s. nat_lt s.from v) xs) xs) ≡ find (falls_from through t p v) xs
falls_behind through t p v xs = find_behind (falls_from through t p v) (λ s. nat_lt s.from v) (λ s e. elsewhere s.from v _ _ _ e) xs

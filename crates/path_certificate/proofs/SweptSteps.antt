-- Columns that grow by a place, and what their sweep says of the steps.
use Rattle.std.proofs.Common.{◌≡◌, ℕ, zero, suc, ◌+◌, ◌<◌, ◌≤◌, ◌↔◌, Bool, true, false, not, List, [], ◌∷◌, ◌++◌, length, get_or, set, take, refl, sym, ap, ◌∙◌, subst, arith, inl, inr}
use Rattle.std.specs.List.{list_all}
use Rattle.std.proofs.Math.Seq.{get_or-append_seam}
use Rattle.std.specs.Cmp.{both_ways}
use Rattle.std.proofs.lemmas.Bool.{and_parts, and_from, not-true, false_from_ne_true}
use Rattle.std.proofs.lemmas.Bool.Decides.{leb_tells}
use Rattle.std.proofs.lemmas.List.{get_or_append_left, take_more_set, take_all, length-append, length-take}
use Rattle.std.proofs.lemmas.List.Folds.{list_all_more}
use Rattle.bit_lanes.specs.Lanes.{Sweeps, together}

at_end : (xs : List ℕ) (y n : ℕ) → length xs ≡ n → get_or (xs ++ y ∷ []) n 0 ≡ y
at_end xs y n e = ap (λ k. get_or (xs ++ y ∷ []) k 0) (sym e) ∙ get_or-append_seam xs y [] 0

-- columns with a place more hold where they did before and the place does
swept_append : (ls cs rs : List ℕ) (l c r : ℕ) → length cs ≡ length ls → length rs ≡ length ls
    → Sweeps (ls ++ l ∷ []) (cs ++ c ∷ []) (rs ++ r ∷ []) ↔ (Sweeps ls cs rs × (l ≤ together c r))
swept_append ls cs rs l c r e f =
    let long : length (ls ++ l ∷ []) ≡ length ls + 1 = length-append ls (l ∷ []) in
    let Before : ℕ → ℕ → ℕ → Type 0 = λ a b d. a ≤ together b d in (
      λ h. (
        λ n place. before ls cs rs l c r n place (omega arith) (omega arith) (h n (omega arith)),
        last ls cs rs l c r e f (h (length ls) (omega arith)),
      ),
      λ both n place. elim (leb_tells (length ls) n) [
        | inl at ↦ let here : n ≡ length ls = omega (arith, at.1) in subst (λ k. Before (get_or (ls ++ l ∷ []) k 0) (get_or (cs ++ c ∷ []) k 0) (get_or (rs ++ r ∷ []) k 0)) (sym here) (last_back ls cs rs l c r e f both.1)
        | inr under ↦ let less = under.1 in before_back ls cs rs l c r n less (omega arith) (omega arith) (both.0 n less)
      ],
    )
  where
    before : (ls cs rs : List ℕ) (l c r n : ℕ) → n < length ls → n < length cs → n < length rs
        → get_or (ls ++ l ∷ []) n 0 ≤ together (get_or (cs ++ c ∷ []) n 0) (get_or (rs ++ r ∷ []) n 0)
        → get_or ls n 0 ≤ together (get_or cs n 0) (get_or rs n 0)
    before ls cs rs l c r n p q o h =
        let a = get_or_append_left ls (l ∷ []) 0 n p in let b = get_or_append_left cs (c ∷ []) 0 n q in
        let d = get_or_append_left rs (r ∷ []) 0 n o in rw (sym a, sym b, sym d) h

    before_back : (ls cs rs : List ℕ) (l c r n : ℕ) → n < length ls → n < length cs → n < length rs
        → get_or ls n 0 ≤ together (get_or cs n 0) (get_or rs n 0)
        → get_or (ls ++ l ∷ []) n 0 ≤ together (get_or (cs ++ c ∷ []) n 0) (get_or (rs ++ r ∷ []) n 0)
    before_back ls cs rs l c r n p q o h =
        let a = get_or_append_left ls (l ∷ []) 0 n p in let b = get_or_append_left cs (c ∷ []) 0 n q in
        let d = get_or_append_left rs (r ∷ []) 0 n o in rw (a, b, d) h

    last : (ls cs rs : List ℕ) (l c r : ℕ) → length cs ≡ length ls → length rs ≡ length ls
        → get_or (ls ++ l ∷ []) (length ls) 0 ≤ together (get_or (cs ++ c ∷ []) (length ls) 0) (get_or (rs ++ r ∷ []) (length ls) 0)
        → l ≤ together c r
    last ls cs rs l c r e f h =
        let a = at_end ls l (length ls) refl in let b = at_end cs c (length ls) e in let d = at_end rs r (length ls) f in
        rw (sym a, sym b, sym d) h

    last_back : (ls cs rs : List ℕ) (l c r : ℕ) → length cs ≡ length ls → length rs ≡ length ls → l ≤ together c r
        → get_or (ls ++ l ∷ []) (length ls) 0 ≤ together (get_or (cs ++ c ∷ []) (length ls) 0) (get_or (rs ++ r ∷ []) (length ls) 0)
    last_back ls cs rs l c r e f h =
        let a = at_end ls l (length ls) refl in let b = at_end cs c (length ls) e in let d = at_end rs r (length ls) f in
        rw (a, b, d) h

pub swept_more : (k : ℕ) (ls cs rs : List ℕ) (l c r : ℕ) → k < length ls → k < length cs → k < length rs
    → Sweeps (take (k + 1) (set ls k l)) (take (k + 1) (set cs k c)) (take (k + 1) (set rs k r))
    ↔ (Sweeps (take k ls) (take k cs) (take k rs) × (l ≤ together c r))
swept_more k ls cs rs l c r p q o =
    let a = length-take k ls in let b = length-take k cs in let d = length-take k rs in
    rw (take_more_set ls k l p, take_more_set cs k c q, take_more_set rs k r o)
    (swept_append (take k ls) (take k cs) (take k rs) l c r (omega arith) (omega arith))

-- all of some pass where all of more do
all_taken : {X : Type 0} (p : X → Bool) (xs : List X) (i : ℕ) → list_all p xs ≡ true → list_all p (take i xs) ≡ true
all_taken p xs zero h = refl
all_taken p [] (suc i) h = refl
all_taken p (x ∷ xs) (suc i) h =
    let both = and_parts (p x) (list_all p xs) h in and_from (p x) (list_all p (take i xs)) both.0 (all_taken p xs i both.1)

-- columns that do not hold, that grow, and that have all steps
pub stops : {X : Type 0} (p : X → Bool) (xs : List X) (i : ℕ) (Holds : Type 0) → (Holds ↔ (list_all p (take i xs) ≡ true))
    → (Holds → ⊥) → false ≡ list_all p xs
stops p xs i Holds told none = sym (false_from_ne_true (list_all p xs) (λ h. none (told.1 (all_taken p xs i h))))

pub goes_on : {X : Type 0} (p : X → Bool) (xs : List X) (i : ℕ) (d : X) (b : Bool) (Before Kept After : Type 0) → i < length xs
    → p (get_or xs i d) ≡ not b → (Before ↔ (list_all p (take i xs) ≡ true)) → (Kept ↔ Before) → (After ↔ (Kept × (b ≡ false)))
    → After ↔ (list_all p (take (i + 1) xs) ≡ true)
goes_on p xs i d b Before Kept After place is told kept after =
    let more = list_all_more p xs i d place in (
      λ h. let both = after.0 h in
          more ∙ and_from (list_all p (take i xs)) (p (get_or xs i d)) (told.0 (kept.0 both.0)) (is ∙ ap not both.1),
      λ h. let both = and_parts (list_all p (take i xs)) (p (get_or xs i d)) (sym more ∙ h) in
          after.1 (kept.1 (told.1 both.0), not-true b (sym is ∙ both.1)),
    )

pub has_all : {X : Type 0} (p : X → Bool) (xs : List X) (i : ℕ) (b : Bool) (Holds : Type 0) → length xs ≤ i
    → (Holds ↔ (list_all p (take i xs) ≡ true)) → ((b ≡ true) ↔ Holds) → b ≡ list_all p xs
has_all p xs i b Holds end told tells =
    let whole = take_all i xs end in
    both_ways b (list_all p xs) (λ h. ap (list_all p) (sym whole) ∙ told.0 (tells.0 h)) (λ h. tells.1 (told.1 (ap (list_all p) whole ∙ h)))

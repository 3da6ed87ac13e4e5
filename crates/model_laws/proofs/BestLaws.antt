-- Laws on the order by a rank, on that of candidates, and on the first of some things.
use Rattle.std.proofs.Common.{◌≡◌, ℕ, ◌<◌, ◌≤◌, Bool, true, false, cond, ◌⊎◌, ◌↔◌, inl, inr, List, [], ◌∷◌, Option, Some, None, refl, sym, ◌∙◌, ap, subst, arith, Less, Equal, is_lt, nat_cmp}
use Rattle.std.proofs.lemmas.Bool.{cases_order, false≢true}
use Rattle.std.proofs.lemmas.Option.{same_Some}
use Rattle.std.proofs.lemmas.Cmp.{tied_itself, nat_list_cmp_total}
use Rattle.std.proofs.lemmas.Map.Lookups.{exact_bytes}
use Rattle.std.specs.Cmp.{nat_cmp_is}
use Rattle.std.specs.Cmp.Lexicographic.{slice_cmp}
use Rattle.std.specs.Ordering.{ordering_then}
use Rattle.ctrl_model.specs.Membership.{Among}
use Rattle.ctrl_model.specs.Choices.{Candidate, rank, precedes}
use Rattle.ctrl_model.specs.Ranks.{comes_before, first_of, least_by}
use Rattle.model_laws.proofs.Orders.{not_below, below_one_way, level}

-- ---- the order of lists of numbers

-- a list that is not below another does not begin with less
pub head_le : (a b : ℕ) (xs ys : List ℕ) → is_lt (slice_cmp nat_cmp (a ∷ xs) (b ∷ ys)) ≡ false → b ≤ a
head_le a b xs ys e = apart (cases_order a b)
  where
    apart : (a ≡ b) ⊎ ((a < b) ⊎ (b < a)) → b ≤ a
    apart (inl s) = omega arith
    apart (inr (inl h)) = absurd (false≢true (sym e ∙ ap (λ o. is_lt (ordering_then o (slice_cmp nat_cmp xs ys))) (sym (nat_cmp_is a b Less h))))
    apart (inr (inr h)) = omega arith

-- and where both begin alike, what follows is not below either
pub tail_not_below : (a b : ℕ) (xs ys : List ℕ) → a ≡ b → is_lt (slice_cmp nat_cmp (a ∷ xs) (b ∷ ys)) ≡ false → is_lt (slice_cmp nat_cmp xs ys) ≡ false
tail_not_below a b xs ys s e = ap (λ o. is_lt (ordering_then o (slice_cmp nat_cmp xs ys))) (nat_cmp_is a b Equal s) ∙ e

-- ---- the order by a rank

pub before-itself : {A : Type 0} (rank_of : A → List ℕ) (a : A) → comes_before rank_of a a ≡ false
before-itself rank_of a = ap is_lt (tied_itself nat_list_cmp_total (rank_of a))

pub not_before : {A : Type 0} (rank_of : A → List ℕ) (a b c : A) → comes_before rank_of a b ≡ false → comes_before rank_of b c ≡ false → comes_before rank_of a c ≡ false
not_before rank_of a b c = not_below nat_list_cmp_total (rank_of a) (rank_of b) (rank_of c)

pub before_one_way : {A : Type 0} (rank_of : A → List ℕ) (a b : A) → comes_before rank_of a b ≡ true → comes_before rank_of b a ≡ false
before_one_way rank_of a b = below_one_way nat_list_cmp_total (rank_of a) (rank_of b)

-- two things of which neither comes before the other have one rank
pub same_rank : {A : Type 0} (rank_of : A → List ℕ) (a b : A) → comes_before rank_of a b ≡ false → comes_before rank_of b a ≡ false → rank_of a ≡ rank_of b
same_rank rank_of a b f g = exact_bytes (rank_of a) (rank_of b) (level nat_list_cmp_total (rank_of a) (rank_of b) f g)

-- ---- the order of candidates

-- one that does not precede another has no earlier precedence
pub not_precedes-precedence : (d c : Candidate) → precedes d c ≡ false → c.precedence ≤ d.precedence
not_precedes-precedence d c = head_le d.precedence c.precedence (d.total ∷ d.terminator ∷ d.ingress ∷ d.links) (c.total ∷ c.terminator ∷ c.ingress ∷ c.links)

-- and with the same precedence no lower total
pub not_precedes-total : (d c : Candidate) → d.precedence ≡ c.precedence → precedes d c ≡ false → c.total ≤ d.total
not_precedes-total d c same e =
    head_le d.total c.total (d.terminator ∷ d.ingress ∷ d.links) (c.terminator ∷ c.ingress ∷ c.links)
    (tail_not_below d.precedence c.precedence (d.total ∷ d.terminator ∷ d.ingress ∷ d.links) (c.total ∷ c.terminator ∷ c.ingress ∷ c.links) same e)

-- the candidate of a rank
abbrev from_rank : List ℕ → Candidate → Candidate
from_rank [] c = c
from_rank (p ∷ []) c = c
from_rank (p ∷ n ∷ []) c = c
from_rank (p ∷ n ∷ e ∷ []) c = c
from_rank (p ∷ n ∷ e ∷ i ∷ ls) c = record { precedence = p; total = n; terminator = e; ingress = i; links = ls }

-- two candidates of which neither precedes the other are one
pub same_candidate : (a b : Candidate) → precedes a b ≡ false → precedes b a ≡ false → a ≡ b
same_candidate a b f g = ap (λ r. from_rank r a) (same_rank rank a b f g)

-- ---- the first of some things

-- one thing is among some, and none of them comes before it
abbrev pub IsFirst : {A : Type 0} → (A → List ℕ) → List A → A → Type 0
IsFirst {A} rank_of xs b = Among b xs × ((x : A) → Among x xs → comes_before rank_of x b ≡ false)

-- there is a first one where there is one
pub least_by-there : {A : Type 0} (rank_of : A → List ℕ) (xs : List A) (x : A) → Among x xs → least_by rank_of xs ≡ None → ⊥
least_by-there rank_of [] x m e = absurd m
least_by-there rank_of (y ∷ xs) x m e = absurd (cc)

pub least_by-first : {A : Type 0} (rank_of : A → List ℕ) (xs : List A) (b : A) → least_by rank_of xs ≡ Some b → IsFirst rank_of xs b
least_by-first rank_of [] b e = absurd (cc)
least_by-first {A} rank_of (c ∷ cs) b e = at (least_by rank_of cs) refl (same_Some (first_of rank_of c (least_by rank_of cs)) b e) (least_by-first rank_of cs)
  where
    pick : (d : A) (s : Bool) → comes_before rank_of d c ≡ s → cond s d c ≡ b → IsFirst rank_of cs d → IsFirst rank_of (c ∷ cs) b
    pick d true before is f = subst (IsFirst rank_of (c ∷ cs)) is (inr f.0, none)
      where
        none : (x : A) → (c ≡ x) ⊎ Among x cs → comes_before rank_of x d ≡ false
        none x (inl s) = subst (λ y. comes_before rank_of y d ≡ false) s (before_one_way rank_of d c before)
        none x (inr m) = f.1 x m
    pick d false before is f = subst (IsFirst rank_of (c ∷ cs)) is (inl refl, none)
      where
        none : (x : A) → (c ≡ x) ⊎ Among x cs → comes_before rank_of x c ≡ false
        none x (inl s) = subst (λ y. comes_before rank_of y c ≡ false) s (before-itself rank_of c)
        none x (inr m) = not_before rank_of x d c (f.1 x m) before

    at : (o : Option A) → least_by rank_of cs ≡ o → first_of rank_of c o ≡ b → ((d : A) → least_by rank_of cs ≡ Some d → IsFirst rank_of cs d) → IsFirst rank_of (c ∷ cs) b
    at None empty is k = subst (IsFirst rank_of (c ∷ cs)) is (inl refl, none)
      where
        none : (x : A) → (c ≡ x) ⊎ Among x cs → comes_before rank_of x c ≡ false
        none x (inl s) = subst (λ y. comes_before rank_of y c ≡ false) s (before-itself rank_of c)
        none x (inr m) = absurd (least_by-there rank_of cs x m empty)
    at (Some d) there is k = pick d (comes_before rank_of d c) refl is (k d there)

-- things of one rank are one
abbrev pub RanksApart : {A : Type 0} → (A → List ℕ) → Type 0
RanksApart {A} rank_of = (a b : A) → comes_before rank_of a b ≡ false → comes_before rank_of b a ≡ false → a ≡ b

pub first_least_by : {A : Type 0} (rank_of : A → List ℕ) → RanksApart rank_of → (xs : List A) (b : A) → IsFirst rank_of xs b → least_by rank_of xs ≡ Some b
first_least_by {A} rank_of apart cs b f = at (least_by rank_of cs) refl
  where
    at : (o : Option A) → least_by rank_of cs ≡ o → o ≡ Some b
    at None e = absurd (least_by-there rank_of cs b f.0 e)
    at (Some a) e = ap Some (apart a b (f.1 a (least_by-first rank_of cs a e).0) ((least_by-first rank_of cs a e).1 b f.0))

-- the first one is the one among them that none of them comes before
pub least_by-is : {A : Type 0} (rank_of : A → List ℕ) → RanksApart rank_of → (xs : List A) (b : A) → (least_by rank_of xs ≡ Some b) ↔ IsFirst rank_of xs b
least_by-is rank_of apart xs b = (least_by-first rank_of xs b, first_least_by rank_of apart xs b)

-- there is no first one exactly where there is none at all
pub least_by-none : {A : Type 0} (rank_of : A → List ℕ) (xs : List A) → (least_by rank_of xs ≡ None) ↔ ((x : A) → Among x xs → ⊥)
least_by-none {A} rank_of xs = (λ e x m. least_by-there rank_of xs x m e, empty xs)
  where
    empty : (xs : List A) → ((x : A) → Among x xs → ⊥) → least_by rank_of xs ≡ None
    empty [] k = refl
    empty (x ∷ xs) k = absurd (k x (inl refl))

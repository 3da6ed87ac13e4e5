-- Counts of pairs, as contracts see a `Counted`: each pair that has a count above 0, with it, in the order of the pairs
-- (docs/RULES.md, "Policies and grants").
use Rattle.std.specs.Prelude.{◌≡◌, ℕ, ◌+◌, ◌<◌, ◌==◌, nat_lt, Bool, true, ◌&&◌, cond, ⊤, List, [], ◌∷◌}
use Rattle.ctrl_model.specs.Membership.{Among}

-- Whether two pairs are the same one.
abbrev pub same_pair : ℕ × ℕ → ℕ × ℕ → Bool
same_pair p q = (p.0 == q.0) && (p.1 == q.1)

-- The count of a pair: 0 where it has none.
abbrev pub count_of : List ((ℕ × ℕ) × ℕ) → ℕ → ℕ → ℕ
count_of [] a b = 0
count_of (x ∷ xs) a b = cond (same_pair x.0 (a, b)) x.1 (count_of xs a b)

-- Whether a pair comes before another: by its left number, and then by its right one.
abbrev pub precedes_pair : ℕ × ℕ → ℕ × ℕ → Bool
precedes_pair p q = cond (p.0 == q.0) (nat_lt p.1 q.1) (nat_lt p.0 q.0)

-- The pair comes before each of these.
abbrev pub ComesFirst : ℕ × ℕ → List ((ℕ × ℕ) × ℕ) → Type 0
ComesFirst p [] = ⊤
ComesFirst p (x ∷ xs) = (precedes_pair p x.0 ≡ true) × ComesFirst p xs

-- The pairs ascend, and each has a count above 0.
abbrev pub AreCounts : List ((ℕ × ℕ) × ℕ) → Type 0
AreCounts [] = ⊤
AreCounts (x ∷ xs) = (0 < x.1) × ComesFirst x.0 xs × AreCounts xs

-- One pair's count is one higher, and every other pair's is as it was.
abbrev pub Raises : List ((ℕ × ℕ) × ℕ) → List ((ℕ × ℕ) × ℕ) → ℕ → ℕ → Type 0
Raises old new a b = (p q : ℕ) → count_of new p q ≡ count_of old p q + cond (same_pair (p, q) (a, b)) 1 0

-- One pair's count is one lower, and every other pair's is as it was.
abbrev pub Lowers : List ((ℕ × ℕ) × ℕ) → List ((ℕ × ℕ) × ℕ) → ℕ → ℕ → Type 0
Lowers old new a b = (p q : ℕ) → count_of new p q + cond (same_pair (p, q) (a, b)) 1 0 ≡ count_of old p q

-- Each number is below all that come after it.
abbrev pub Ascends : List ℕ → Type 0
Ascends [] = ⊤
Ascends (n ∷ ns) = ((m : ℕ) → Among m ns → n < m) × Ascends ns

-- The numbers are exactly those that a test holds of, in ascending order.
pub record AreThose (holds : ℕ → Bool) (ns : List ℕ) : Type 0 where
  pub ascending : Ascends ns
  pub each : (n : ℕ) → Among n ns → holds n ≡ true
  pub every : (n : ℕ) → holds n ≡ true → Among n ns

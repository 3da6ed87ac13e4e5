-- Laws of tests: the parts of a test of several parts, a number in bounds, and what is there only where a test passes.
use Rattle.std.proofs.Common.{◌≡◌, ℕ, ◌≤◌, nat_le, ◌&&◌, Bool, true, false, cond, Option, Some, None, refl, leb-true}
use Rattle.std.proofs.lemmas.Bool.{and_parts, and_from, false≢true}

pub three_parts : (a b c : Bool) → (a && (b && c)) ≡ true → (a ≡ true) × (b ≡ true) × (c ≡ true)
three_parts true true true h = (refl, refl, refl)
three_parts true true false h = absurd (false≢true h)
three_parts true false c h = absurd (false≢true h)
three_parts false b c h = absurd (false≢true h)

pub five_parts : (a b c d e : Bool) → (a && (b && (c && (d && e)))) ≡ true → (a ≡ true) × (b ≡ true) × (c ≡ true) × (d ≡ true) × (e ≡ true)
five_parts true true true true true h = (refl, refl, refl, refl, refl)
five_parts true true true true false h = absurd (false≢true h)
five_parts true true true false e h = absurd (false≢true h)
five_parts true true false d e h = absurd (false≢true h)
five_parts true false c d e h = absurd (false≢true h)
five_parts false b c d e h = absurd (false≢true h)

pub five_from : (a b c d e : Bool) → a ≡ true → b ≡ true → c ≡ true → d ≡ true → e ≡ true → (a && (b && (c && (d && e)))) ≡ true
five_from a b c d e p q r s t = and_from a (b && (c && (d && e))) p (and_from b (c && (d && e)) q (and_from c (d && e) r (and_from d e s t)))

pub in_bounds : (low high n : ℕ) → (nat_le low n && nat_le n high) ≡ true → (low ≤ n) × (n ≤ high)
in_bounds low high n h = (leb-true low n (and_parts (nat_le low n) (nat_le n high) h).0, leb-true n high (and_parts (nat_le low n) (nat_le n high) h).1)

-- what is there only where a test passes
pub by_kept : {A P : Type 0} (b : Bool) (o : Option A) (x : A) → cond b o None ≡ Some x → (b ≡ true → o ≡ Some x → P) → P
by_kept true o x e k = k refl e
by_kept false o x e k = absurd (cc)

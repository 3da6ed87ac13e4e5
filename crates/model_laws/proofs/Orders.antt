-- Laws of total orders, in the words of the test that one is below another.
use Rattle.std.proofs.Common.{◌≡◌, true, false, refl, sym, ◌∙◌, ap, Ordering, Less, Equal, Greater, is_lt, is_gt}
use Rattle.std.proofs.lemmas.Bool.{false≢true}
use Rattle.std.proofs.lemmas.Cmp.{upto}
use Rattle.std.specs.Cmp.{IsTotalOrder}
use Rattle.std.specs.Ordering.{ordering_reverse}

-- one is below another exactly where that one is above it
pub lt-gt : {K : Type 0} {R : K → K → Ordering} (o : IsTotalOrder R) (x y : K) → is_lt (R x y) ≡ is_gt (R y x)
lt-gt {R = R} o x y = ap is_lt (o.antisymm x y) ∙ turned (R y x)
  where
    turned : (r : Ordering) → is_lt (ordering_reverse r) ≡ is_gt r
    turned Less = refl
    turned Equal = refl
    turned Greater = refl

-- not below goes on from one to the next
pub not_below : {K : Type 0} {R : K → K → Ordering} (o : IsTotalOrder R) (x y z : K) → is_lt (R x y) ≡ false → is_lt (R y z) ≡ false → is_lt (R x z) ≡ false
not_below o x y z a b = lt-gt o x z ∙ upto o z y x (sym (lt-gt o y z) ∙ b) (sym (lt-gt o x y) ∙ a)

-- one that is below another is not above it
pub below_one_way : {K : Type 0} {R : K → K → Ordering} (o : IsTotalOrder R) (x y : K) → is_lt (R x y) ≡ true → is_lt (R y x) ≡ false
below_one_way {R = R} o x y a = lt-gt o y x ∙ apart (R x y) a
  where
    apart : (r : Ordering) → is_lt r ≡ true → is_gt r ≡ false
    apart Less e = refl
    apart Equal e = absurd (false≢true e)
    apart Greater e = absurd (false≢true e)

-- of which neither is below the other, they are level
pub level : {K : Type 0} {R : K → K → Ordering} (o : IsTotalOrder R) (x y : K) → is_lt (R x y) ≡ false → is_lt (R y x) ≡ false → R x y ≡ Equal
level {R = R} o x y a b = apart (R x y) a (sym (lt-gt o y x) ∙ b)
  where
    apart : (r : Ordering) → is_lt r ≡ false → is_gt r ≡ false → r ≡ Equal
    apart Less e f = absurd (false≢true (sym e))
    apart Equal e f = refl
    apart Greater e f = absurd (false≢true (sym f))

-- Rows that rise and stand among other rows that rise: they are no more than these, and the same where they are as many; else a row
-- of these is not among them.
use Rattle.std.proofs.Common.{◌≡◌, ◌<◌, ◌≤◌, Bool, true, false, List, [], ◌∷◌, length, None, Some, refl, sym, ◌∙◌, ap, subst, is_eq, arith, Ordering, Less, Equal, Greater}
use Rattle.std.proofs.lemmas.Option.{same_Some, none-some}
use Rattle.std.specs.Cmp.{IsTotalOrder, Equal-is}
use Rattle.std.specs.FinMap.{IsAntisymmetric}
use Rattle.row_codec.specs.RowDifference.{value_at, Rises}
use Rattle.row_laws.proofs.RisingRows.{Above, Above-from, turned_back, value_at-above, value_at-first, value_at-other}

-- what stands in the first rows stands in the second ones
abbrev pub StandIn : {K V : Type 0} → (K → K → Ordering) → List (K × V) → List (K × V) → Type 0
StandIn {K = K} {V = V} R xs ys = (q : K) (v : V) → value_at R xs q ≡ Some v → value_at R ys q ≡ Some v

-- a row of the second ones that is none of the first ones
pub record Lacks {K V : Type 0} (R : K → K → Ordering) (xs ys : List (K × V)) : Type 0 where
  pub key : K
  pub value : V
  pub absent : value_at R xs key ≡ None
  pub there : value_at R ys key ≡ Some value

pub record ArePart {K V : Type 0} (R : K → K → Ordering) (xs ys : List (K × V)) : Type 0 where
  pub few : length xs ≤ length ys
  pub whole : length ys ≤ length xs → xs ≡ ys
  pub lacks : length xs < length ys → Lacks R xs ys

module _ {K : Type 0} {R : K → K → Ordering} (o : IsTotalOrder R) (a : IsAntisymmetric R) where
  -- a key that has nothing in rows is not the key of something there
  none_there : {V : Type 0} (ys : List (K × V)) (p q : K) (v : V) → is_eq (R p q) ≡ true → value_at R ys p ≡ None → value_at R ys q ≡ Some v → ⊥
  none_there ys p q v same none some =
      let at = a p q ((Equal-is (R p q)).0 same) in
      none-some v (sym none ∙ ap (value_at R ys) at ∙ some)

  behind_other : {V : Type 0} (xs ys : List (K × V)) (y : K × V) → StandIn R xs (y ∷ ys) → value_at R xs y.0 ≡ None → StandIn R xs ys
  behind_other xs ys y e none q v h = split (is_eq (R y.0 q)) refl
    where
      split : (b : Bool) → is_eq (R y.0 q) ≡ b → value_at R ys q ≡ Some v
      split true is = absurd (none_there xs y.0 q v is none h)
      split false is = sym (value_at-other R y ys q is) ∙ e q v h

  behind_same : {V : Type 0} (x : K × V) (xs ys : List (K × V)) → StandIn R (x ∷ xs) ys → Above R x.0 xs → StandIn R xs ys
  behind_same x xs ys e above q v h = split (is_eq (R x.0 q)) refl
    where
      split : (b : Bool) → is_eq (R x.0 q) ≡ b → value_at R ys q ≡ Some v
      split true is = absurd (none_there xs x.0 q v is (value_at-above o xs x.0 above) h)
      split false is = e q v (value_at-other R x xs q is ∙ h)

  lacks_behind : {V : Type 0} (x y : K × V) (xs ys : List (K × V)) → x.0 ≡ y.0 → Above R y.0 ys → Lacks R xs ys → Lacks R (x ∷ xs) (y ∷ ys)
  lacks_behind x y xs ys k above l = split (is_eq (R y.0 l.key)) refl
    where
      split : (b : Bool) → is_eq (R y.0 l.key) ≡ b → Lacks R (x ∷ xs) (y ∷ ys)
      split true is = absurd (none_there ys y.0 l.key l.value is (value_at-above o ys y.0 above) l.there)
      split false is = record {
        key = l.key;
        value = l.value;
        absent = value_at-other R x xs l.key (ap (λ p. is_eq (R p l.key)) k ∙ is) ∙ l.absent;
        there = value_at-other R y ys l.key is ∙ l.there;
      }

  pub are_part : {V : Type 0} (xs ys : List (K × V)) → Rises R xs → Rises R ys → StandIn R xs ys → ArePart R xs ys
  are_part [] [] r s e = record { few = omega arith; whole = λ h. refl; lacks = λ h. absurd (omega arith) }
  are_part [] (y ∷ ys) r s e = record {
    few = omega arith;
    whole = λ h. absurd (omega arith);
    lacks = λ h. record { key = y.0; value = y.1; absent = refl; there = value_at-first o y ys };
  }
  are_part (x ∷ xs) [] r s e = absurd (none-some x.1 (e x.0 x.1 (value_at-first o x xs)))
  are_part {V = V} (x ∷ xs) (y ∷ ys) r s e = by (R x.0 y.0) refl (are_part xs ys r.1 s.1) (are_part (x ∷ xs) ys r s.1)
    where
      by : (c : Ordering) → R x.0 y.0 ≡ c → (StandIn R xs ys → ArePart R xs ys) → (StandIn R (x ∷ xs) ys → ArePart R (x ∷ xs) ys) → ArePart R (x ∷ xs) (y ∷ ys)
      by Less is f g = absurd (none-some x.1 (sym (value_at-above o (y ∷ ys) x.0 (is, Above-from o x.0 y.0 ys is s.0)) ∙ e x.0 x.1 (value_at-first o x xs)))
      by Equal is f g =
          let k = a x.0 y.0 is in
          let v = same_Some x.1 y.1 (sym (e x.0 x.1 (value_at-first o x xs)) ∙ ap (value_at R (y ∷ ys)) k ∙ value_at-first o y ys) in
          let none = value_at-above o xs y.0 (subst (λ p. Above R p xs) k r.0) in
          let p = f (behind_other xs ys y (behind_same x xs (y ∷ ys) e r.0) none) in
          record {
            few = omega (arith, p.few);
            whole = λ h. let same = p.whole (omega arith) in λ i. (k i, v i) ∷ same i;
            lacks = λ h. lacks_behind x y xs ys k s.0 (p.lacks (omega arith));
          }
      by Greater is f g =
          let back = turned_back o x.0 y.0 is in
          let none = value_at-above o (x ∷ xs) y.0 (back, Above-from o y.0 x.0 xs back r.0) in
          let p = g (behind_other (x ∷ xs) ys y e none) in
          record {
            few = omega (arith, p.few);
            whole = λ h. absurd (omega (arith, p.few));
            lacks = λ h. record { key = y.0; value = y.1; absent = none; there = value_at-first o y ys };
          }

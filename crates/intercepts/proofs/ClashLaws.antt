-- Laws of clashes: a clash is one of both services.
use Rattle.std.proofs.Common.{◌≡◌, ℕ, ◌==◌, Bool, true, false, cond, not, ◌&&◌, ◌||◌, List, [], Option, None, Some, refl, sym, ◌∙◌, ap, ap₂, arith, subst, eqb-true, eq-eqb, filter}
use Rattle.std.proofs.lemmas.Bool.{false≢true, and_parts, and_from}
use Rattle.std.proofs.lemmas.Bool.Decides.{nat_tests}
use Rattle.std.specs.List.{list_any}
use Rattle.std.specs.Option.{option_map_or}
use Rattle.ctrl_model.specs.declared.addresses.Address.{Address}
use Rattle.ctrl_model.specs.declared.addresses.Address.TheVariants.{Host, Under, Range}
use Rattle.ctrl_model.specs.declared.intercepts.PortRange.{PortRange}
use Rattle.ctrl_model.specs.declared.intercepts.Intercept.{Intercept}
use Rattle.ctrl_model.specs.AddressForm.{same_address}
use Rattle.ctrl_model.specs.InterceptForm.{same_ports}
use Rattle.ctrl_model.specs.Hits.{do_clash, clashes_with, clashes}
use Rattle.ctrl_model.specs.Membership.{Among}
use Rattle.ctrl_model.specs.Numbered.{at}
use Rattle.ctrl_model.proofs.Members.{by_filter, Among-filter, by_list_any, list_any-from_among}
use Rattle.record_tables.proofs.NameKeys.{bytes_eq-flip}

flip : (m n : ℕ) → (m == n) ≡ (n == m)
flip m n = by (m == n) (n == m) refl refl
  where
    by : (p q : Bool) → (m == n) ≡ p → (n == m) ≡ q → p ≡ q
    by true true s t = refl
    by false false s t = refl
    by true false s t = absurd (grind (arith, nat_tests))
    by false true s t = absurd (grind (arith, nat_tests))

same_address-flip : (a b : Address) → same_address a b ≡ same_address b a
same_address-flip (Host t) (Host u) = bytes_eq-flip t u
same_address-flip (Host t) (Under u) = refl
same_address-flip (Host t) (Range j l) = refl
same_address-flip (Under t) (Host u) = refl
same_address-flip (Under t) (Under u) = bytes_eq-flip t u
same_address-flip (Under t) (Range j l) = refl
same_address-flip (Range i k) (Host u) = refl
same_address-flip (Range i k) (Under u) = refl
same_address-flip (Range i k) (Range j l) = ap₂ (λ p q. p && q) (flip i j) (flip k l)

same_ports-flip : (r s : PortRange) → same_ports r s ≡ same_ports s r
same_ports-flip r s = ap₂ (λ p q. p && q) (flip r.low s.low) (flip r.high s.high)

-- two lists have the same in common from either side
shared : {A : Type 0} (same : A → A → Bool) → ((a b : A) → same a b ≡ same b a) → (xs ys : List A) → list_any (λ x. list_any (same x) ys) xs ≡ true → list_any (λ y. list_any (same y) xs) ys ≡ true
shared same flips xs ys e =
    by_list_any (λ x. list_any (same x) ys) xs e λ x m any.
    by_list_any (same x) ys any λ y k is.
    list_any-from_among (λ z. list_any (same z) xs) ys y k (list_any-from_among (same y) xs x m (flips y x ∙ is))

protocols : (t u v w : Bool) → ((t && u) || (v && w)) ≡ true → ((u && t) || (w && v)) ≡ true
protocols true true v w e = refl
protocols true false true true e = refl
protocols true false true false e = e
protocols true false false w e = absurd (false≢true e)
protocols false true true true e = refl
protocols false true true false e = e
protocols false true false w e = absurd (false≢true e)
protocols false false true true e = refl
protocols false false true false e = e
protocols false false false w e = absurd (false≢true e)

do_clash-back : (i j : Intercept) → do_clash i j ≡ true → do_clash j i ≡ true
do_clash-back i j e =
    let p = and_parts _ _ e in
    let q = and_parts _ _ p.1 in
    and_from _ _ (protocols i.tcp j.tcp i.udp j.udp p.0)
    (and_from _ _ (shared same_address same_address-flip i.addresses j.addresses q.0) (shared same_ports same_ports-flip i.ports j.ports q.1))

module _ (intercepts : List (ℕ × Intercept)) (dialled : List ℕ) where
  -- what the clashes of a service have
  by_clash : {P : Type 0} (a b : ℕ) → Among b (clashes intercepts dialled a)
      → ((i : Intercept) → list_any (λ n. n == a) dialled ≡ true → at intercepts a ≡ Some i → Among b dialled → clashes_with intercepts a i b ≡ true → P) → P
  by_clash {P} a b m k = by (list_any (λ n. n == a) dialled) (at intercepts a) refl refl m
    where
      by : (c : Bool) (o : Option Intercept) → list_any (λ n. n == a) dialled ≡ c → at intercepts a ≡ o → Among b (cond c (option_map_or (λ i. filter (clashes_with intercepts a i) dialled) o []) []) → P
      by false o s t m = absurd m
      by true None s t m = absurd m
      by true (Some i) s t m = by_filter (clashes_with intercepts a i) dialled b m λ among passes. k i s t among passes

  from_clash : (a b : ℕ) (j : Intercept) → list_any (λ n. n == b) dialled ≡ true → at intercepts b ≡ Some j → Among a dialled → clashes_with intercepts b j a ≡ true
      → Among a (clashes intercepts dialled b)
  from_clash a b j s t m passes =
      subst (λ (c : Bool). Among a (cond c (option_map_or (λ i. filter (clashes_with intercepts b i) dialled) (at intercepts b) []) [])) (sym s)
      (subst (λ (o : Option Intercept). Among a (option_map_or (λ i. filter (clashes_with intercepts b i) dialled) o [])) (sym t) (Among-filter (clashes_with intercepts b j) dialled a m passes))

  by_other : {P : Type 0} (i : Intercept) (o : Option Intercept) → option_map_or (do_clash i) o false ≡ true → ((j : Intercept) → o ≡ Some j → do_clash i j ≡ true → P) → P
  by_other i None e k = absurd (false≢true e)
  by_other i (Some j) e k = k j refl e

  pub clashes-back : (a b : ℕ) → Among b (clashes intercepts dialled a) → Among a (clashes intercepts dialled b)
  clashes-back a b m =
      by_clash a b m λ i dials claims among passes.
      let parts = and_parts _ _ passes in
      by_other i (at intercepts b) parts.1 λ j others clash.
      by_list_any (λ n. n == a) dialled dials λ n there is.
      let back : clashes_with intercepts b j a ≡ true =
      and_from _ _ (ap not (flip a b) ∙ parts.0) (ap (λ (o : Option Intercept). option_map_or (do_clash j) o false) claims ∙ do_clash-back i j clash) in
      from_clash a b j (list_any-from_among (λ n. n == b) dialled b among (eq-eqb b b refl)) others (subst (λ k. Among k dialled) (eqb-true n a is) there) back

-- Laws of the chains in which slots are found by their names.
use Rattle.std.proofs.Common.{◌≡◌, ◌≢◌, ℕ, zero, suc, ◌+◌, ◌-◌, ◌<◌, ◌≤◌, min, Bool, true, false, not, ◌&&◌, ◌⊎◌, cond, List, [], ◌∷◌, length, get_or, set, replicate, All, Option, Some, None, position, eqb, ltb, refl, sym, ◌∙◌, ap, subst, inl, inr, arith, eq-eqb, ne_eqb}
use Rattle.std.proofs.lemmas.Bool.{eqb-true, ltb-true, ltb-false, both_ways, and_parts, and_from}
use Rattle.std.proofs.lemmas.Bool.Decides.{eqb_tells}
use Rattle.std.proofs.lemmas.List.{get_or_read, get_or-set_same, get_or-set_other, length-set, length-replicate, get_or-replicate}
use Rattle.std.proofs.lemmas.List.Elements.{All-tail}
use Rattle.std.proofs.lemmas.List.Quantifiers.{position-Some}
use Rattle.std.proofs.lemmas.List.Sums.{sum_by-cons, sum_by-set}
use Rattle.attr_pool.specs.Slots.{Slot, slot_with, free_slot, is_free, holds, slot_at, slot_of, number_for, held_count, most_slots, with_use, without_use}
use Rattle.attr_pool.specs.Chains.{chain_of, in_chain, link_place, has_link, IsNext, AreLinked, IsLinkTo, AreFound}
use Rattle.attr_pool.proofs.SlotLemmas.{held_name, held_used, false_where, position_none, all_free, used_within, number_within, number_cases, at_set}

-- the three ways in which two numbers stand
three_ways : {P : Type 0} (a b : ℕ) → (a < b → P) → (a ≡ b → P) → (b < a → P) → P
three_ways {P} a b less same more = by (ltb a b) refl (eqb_tells a b)
  where
    above : (n m : ℕ) → m ≤ n → n ≢ m → m < n
    above n m l e = omega (arith, l, e)

    by : (c : Bool) → ltb a b ≡ c → ((eqb a b ≡ true) × (a ≡ b)) ⊎ ((eqb a b ≡ false) × (a ≢ b)) → P
    by true e t = less (ltb-true a b e)
    by false e (inl t) = same t.1
    by false e (inr t) = more (above a b (ltb-false a b e) t.1)

-- ---- the first place that passes

-- the place that passes, before which none does
pub position_is : (p : Slot → Bool) (xs : List Slot) (n : ℕ) → n < length xs → p (slot_at xs n) ≡ true → ((k : ℕ) → k < n → p (slot_at xs k) ≡ false) → position p xs ≡ Some n
position_is p xs n within passes before = by (position p xs) refl
  where
    by : (found : Option ℕ) → position p xs ≡ found → position p xs ≡ Some n
    by None e = absurd (both_ways _ (position_none p xs e n within) passes)
    by (Some m) e =
        let r = position-Some p xs m free_slot e in
        e ∙ ap Some (three_ways m n (λ l. absurd (both_ways _ (before m l) r.1)) (λ t. t) (λ l. absurd (both_ways _ (r.2 n l) passes)))

pub position_is_none : (p : Slot → Bool) (xs : List Slot) → ((k : ℕ) → k < length xs → p (slot_at xs k) ≡ false) → position p xs ≡ None
position_is_none p xs none = by (position p xs) refl
  where
    by : (found : Option ℕ) → position p xs ≡ found → position p xs ≡ None
    by None e = e
    by (Some m) e = let r = position-Some p xs m free_slot e in absurd (both_ways _ (none m r.0) r.1)

-- ---- which slots stand in a chain

-- it stands in the chain of its name alone
pub chain_is : (c : ℕ) (s : Slot) → in_chain c s ≡ true → chain_of s.name ≡ c
chain_is c s h = eqb-true (chain_of s.name) c (and_parts (not (is_free s)) (eqb (chain_of s.name) c) h).1

pub used_in_chain : (c : ℕ) (s : Slot) → is_free s ≡ false → chain_of s.name ≡ c → in_chain c s ≡ true
used_in_chain c s used e = and_from (not (is_free s)) (eqb (chain_of s.name) c) (ap not used) (eq-eqb (chain_of s.name) c e)

-- a slot that does not stand in the chain of a name does not hold it
pub not_in_chain : (q : List ℕ) (s : Slot) → in_chain (chain_of q) s ≡ false → holds q s ≡ false
not_in_chain q s f =
    false_where (holds q s) (λ h. both_ways _ f (used_in_chain (chain_of q) s (held_used q s h) (ap chain_of (held_name q s h))))

-- a free slot stands in none
pub free_in_none : (c : ℕ) (s : Slot) → is_free s ≡ true → in_chain c s ≡ false
free_in_none c s e = ap (λ b. not b && eqb (chain_of s.name) c) e

-- ---- the chains of free slots

pub linked_free : (xs : List Slot) (links : List ℕ) → length xs ≡ most_slots → All (λ s. s ≡ free_slot) xs → links ≡ replicate (most_slots + most_slots) most_slots → AreLinked xs links
linked_free xs links long free e = record {
  slots_long = long;
  links_long = ap length e ∙ length-replicate (most_slots + most_slots) most_slots;
  next = by;
}
  where
    none : (c n : ℕ) → in_chain c (slot_at xs n) ≡ false
    none c n = ap (in_chain c) (all_free xs free n)

    leads : (place : ℕ) → place < most_slots + most_slots → get_or links place 0 ≡ most_slots
    leads place l = ap (λ ls. get_or ls place 0) e ∙ get_or-replicate (most_slots + most_slots) place most_slots 0 l

    by : (c from : ℕ) → c < most_slots → has_link xs c from ≡ true → IsNext xs c from (get_or links (link_place c from) 0)
    by c zero small link =
        subst (IsNext xs c 0) (sym (leads c (omega (arith, small))))
        (record { behind = omega arith; within = omega (arith, long); there = λ l. absurd (omega (arith, l, long)); first = λ n _ _. none c n })
    by c (suc m) small link = absurd (both_ways _ (none c m) link)

-- ---- along a chain

module _ (xs : List Slot) (links : List ℕ) (linked : AreLinked xs links) where
  -- where a link leads
  pub leads : (c n place : ℕ) → c < most_slots → (at : IsLinkTo xs c n place) → IsNext xs c at.from (get_or links place 0)
  leads c n place small at = subst (λ p. IsNext xs c at.from (get_or links p 0)) (sym at.here) (linked.next c at.from small at.link)

  pub place_within : (c n place : ℕ) → c < most_slots → n ≤ most_slots → IsLinkTo xs c n place → place < length links
  place_within c n place small most at = by at.from at.here at.before
    where
      by : (from : ℕ) → place ≡ link_place c from → from ≤ n → place < length links
      by zero e b = omega (arith, e, small, linked.links_long)
      by (suc m) e b = omega (arith, e, b, most, linked.links_long)

  -- the link of the slot that a link leads to
  pub link_after : (c n place : ℕ) → c < most_slots → n ≤ most_slots → IsLinkTo xs c n place → get_or links place 0 < n → IsLinkTo xs c n (most_slots + get_or links place 0)
  link_after c n place small most at l = record {
    from = suc (get_or links place 0);
    here = refl;
    link = (leads c n place small at).there (omega (arith, l, most, linked.slots_long));
    before = omega (arith, l);
  }

  -- it leads further
  pub link_further : (c n place : ℕ) → c < most_slots → n ≤ most_slots → IsLinkTo xs c n place → get_or links place 0 < n → get_or links place 0 < get_or links (most_slots + get_or links place 0) 0
  link_further c n place small most at l = let next = linked.next c (suc (get_or links place 0)) small ((leads c n place small at).there (omega (arith, l, most, linked.slots_long))) in next.behind

  -- two links of a chain that start at most at a number and lead at least to it are one
  not_before : (c a b n : ℕ) → c < most_slots → has_link xs c a ≡ true → has_link xs c b ≡ true → b ≤ n → n ≤ get_or links (link_place c a) 0 → a < b → ⊥
  not_before c a zero n small la lb l over less = absurd (omega (arith, less))
  not_before c a (suc m) n small la lb l over less = both_ways _ ((linked.next c a small la).first m (omega (arith, less)) (omega (arith, l, over))) lb

  pub one_link : (c a b n : ℕ) → c < most_slots → has_link xs c a ≡ true → has_link xs c b ≡ true → a ≤ n → b ≤ n → n ≤ get_or links (link_place c a) 0 → n ≤ get_or links (link_place c b) 0 → a ≡ b
  one_link c a b n small la lb a_low b_low a_over b_over =
      three_ways a b (λ l. absurd (not_before c a b n small la lb b_low a_over l)) (λ e. e) (λ l. absurd (not_before c b a n small lb la a_low b_over l))

-- two links at one place are one
pub same_place : (c d a b : ℕ) → c < most_slots → d < most_slots → link_place c a ≡ link_place d b → a ≡ b
same_place c d zero zero c_small d_small e = refl
same_place c d zero (suc m) c_small d_small e = absurd (omega (arith, e, c_small))
same_place c d (suc m) zero c_small d_small e = absurd (omega (arith, e, d_small))
same_place c d (suc m) (suc k) c_small d_small e = omega (arith, e)

pub same_chain : (xs : List Slot) (c d a : ℕ) → has_link xs c a ≡ true → has_link xs d a ≡ true → link_place c a ≡ link_place d a → c ≡ d
same_chain xs c d zero lc ld e = e
same_chain xs c d (suc m) lc ld e = sym (chain_is c (slot_at xs m) lc) ∙ chain_is d (slot_at xs m) ld

-- ---- while a name is looked for

pub record Looking (xs : List Slot) (q : List ℕ) (number : ℕ) : Type 0 where
  pub within : number ≤ most_slots
  pub passed : (n : ℕ) → n < number → holds q (slot_at xs n) ≡ false
  pub here : number < most_slots → in_chain (chain_of q) (slot_at xs number) ≡ true

module _ (xs : List Slot) (links : List ℕ) (linked : AreLinked xs links) (q : List ℕ) (small : chain_of q < most_slots) where
  pub look_first : Looking xs q (get_or links (chain_of q) 0)
  look_first =
      let next = linked.next (chain_of q) 0 small refl in
      record {
        within = omega (arith, next.within, linked.slots_long);
        passed = λ n l. not_in_chain q (slot_at xs n) (next.first n (omega arith) l);
        here = λ l. next.there (omega (arith, l, linked.slots_long));
      }

  pub look_next : (number : ℕ) → Looking xs q number → number < most_slots → holds q (slot_at xs number) ≡ false → Looking xs q (get_or links (most_slots + number) 0) × (number < get_or links (most_slots + number) 0)
  look_next number at l other =
      let next = linked.next (chain_of q) (suc number) small (at.here l) in (
        record {
          within = omega (arith, next.within, linked.slots_long);
          passed = λ n below. three_ways n number (at.passed n) (λ e. subst (λ m. holds q (slot_at xs m) ≡ false) (sym e) other) (λ above. not_in_chain q (slot_at xs n) (next.first n above below));
          here = λ below. next.there (omega (arith, below, linked.slots_long));
        },
        next.behind,
      )

-- ---- a slot gets a name

module _ (xs : List Slot) (links : List ℕ) (linked : AreLinked xs links) (n : ℕ) (within : n < most_slots) where
  long : n < length xs
  long = omega (arith, within, linked.slots_long)

  -- another slot is as before
  other_slot : (y : Slot) (k : ℕ) → k ≢ n → slot_at (set xs n y) k ≡ slot_at xs k
  other_slot y k e = get_or-set_other xs n k y free_slot e

  this_slot : (y : Slot) → slot_at (set xs n y) n ≡ y
  this_slot y = get_or-set_same xs n y free_slot long

  old_link : (y : Slot) (c from : ℕ) → from ≢ suc n → has_link (set xs n y) c from ≡ true → has_link xs c from ≡ true
  old_link y c zero e link = refl
  old_link y c (suc m) e link = sym (ap (in_chain c) (other_slot y m (λ s. e (ap suc s)))) ∙ link

  apart_places : (c from : ℕ) → c < most_slots → from ≢ suc n → link_place c from ≢ most_slots + n
  apart_places c zero small e s = omega (arith, small, s)
  apart_places c (suc m) small e s = e (omega (arith, s))

  module _ (y : Slot) (place : ℕ) (small : chain_of y.name < most_slots) (used : is_free y ≡ false) (free : is_free (slot_at xs n) ≡ true) (at : IsLinkTo xs (chain_of y.name) n place) (over : n ≤ get_or links place 0) where
    abbrev chain : ℕ
    chain = chain_of y.name

    to : IsNext xs chain at.from (get_or links place 0)
    to = leads xs links linked chain n place small at

    abbrev new : List ℕ
    new = set (set links (most_slots + n) (get_or links place 0)) place n

    place_small : place < length links
    place_small = place_within xs links linked chain n place small (omega (arith, within)) at

    at_place : get_or new place 0 ≡ n
    at_place = get_or-set_same (set links (most_slots + n) (get_or links place 0)) place n 0 (omega (arith, place_small, length-set links (most_slots + n) (get_or links place 0)))

    at_new : most_slots + n ≢ place → get_or new (most_slots + n) 0 ≡ get_or links place 0
    at_new e =
        get_or-set_other (set links (most_slots + n) (get_or links place 0)) place (most_slots + n) n 0 e
        ∙ get_or-set_same links (most_slots + n) (get_or links place 0) 0 (omega (arith, within, linked.links_long))

    at_other : (p : ℕ) → p ≢ place → p ≢ most_slots + n → get_or new p 0 ≡ get_or links p 0
    at_other p e f =
        get_or-set_other (set links (most_slots + n) (get_or links place 0)) place p n 0 e
        ∙ get_or-set_other links (most_slots + n) p (get_or links place 0) 0 f

    -- a link never leads to the free slot
    not_here : (c from v : ℕ) → IsNext xs c from v → v ≢ n
    not_here c from v next e =
        both_ways _ (free_in_none c (slot_at xs n) free) (subst (λ k. in_chain c (slot_at xs k) ≡ true) e (next.there (subst (λ k. k < length xs) (sym e) long)))

    place_apart : most_slots + n ≢ place
    place_apart e = apart_places chain at.from small (λ s. omega (arith, s, at.before)) (sym at.here ∙ sym e)

    by_place : (c from : ℕ) → c < most_slots → has_link xs c from ≡ true → link_place c from ≡ place → IsNext (set xs n y) c from n
    by_place c from c_small link e =
        let start : from ≡ at.from = same_place c chain from at.from c_small small (e ∙ at.here) in
        let named : c ≡ chain = same_chain xs c chain from link (subst (λ f. has_link xs chain f ≡ true) (sym start) at.link) (e ∙ at.here ∙ ap (link_place chain) (sym start)) in
        record {
          behind = omega (arith, start, at.before);
          within = omega (arith, long, length-set xs n y);
          there = λ l. ap (in_chain c) (this_slot y) ∙ used_in_chain c y used (sym named);
          first = λ k low high. ap (in_chain c) (other_slot y k (λ s. omega (arith, s, high))) ∙ ap (λ d. in_chain d (slot_at xs k)) named ∙ to.first k (omega (arith, low, start)) (omega (arith, high, over));
        }

    by_other : (c from : ℕ) → c < most_slots → has_link xs c from ≡ true → link_place c from ≢ place → IsNext (set xs n y) c from (get_or links (link_place c from) 0)
    by_other c from c_small link e =
        let next = linked.next c from c_small link in
        record {
          behind = next.behind;
          within = omega (arith, next.within, length-set xs n y);
          there = λ l. ap (in_chain c) (other_slot y (get_or links (link_place c from) 0) (not_here c from (get_or links (link_place c from) 0) next)) ∙ next.there (omega (arith, l, length-set xs n y));
          first = λ k low high. elim (eqb_tells k n) [
            | inl t ↦ subst (λ m. in_chain c (slot_at (set xs n y) m) ≡ false) (sym t.1) (ap (in_chain c) (this_slot y) ∙ false_where (in_chain c y) (λ h. over_here (chain_is c y h) (omega (arith, low, t.1)) (omega (arith, high, t.1))))
            | inr t ↦ ap (in_chain c) (other_slot y k t.1) ∙ next.first k low high
          ];
        }
      where
        over_here : chain ≡ c → from ≤ n → n ≤ get_or links (link_place c from) 0 → ⊥
        over_here named low high =
            let same : from ≡ at.from = one_link xs links linked c from at.from n c_small link (subst (λ d. has_link xs d at.from ≡ true) named at.link) low at.before high (subst (λ p. n ≤ get_or links p 0) (at.here ∙ ap (λ d. link_place d at.from) named) over) in
            e (ap (link_place c) same ∙ ap (λ d. link_place d at.from) (sym named) ∙ sym at.here)

    from_new : (c : ℕ) → in_chain c y ≡ true → IsNext (set xs n y) c (suc n) (get_or links place 0)
    from_new c h =
        let named : chain ≡ c = chain_is c y h in
        let past : get_or links place 0 ≢ n = not_here chain at.from (get_or links place 0) to in
        record {
          behind = omega (arith, past, over);
          within = omega (arith, to.within, length-set xs n y);
          there = λ l. ap (in_chain c) (other_slot y (get_or links place 0) past) ∙ subst (λ d. in_chain d (slot_at xs (get_or links place 0)) ≡ true) named (to.there (omega (arith, l, length-set xs n y)));
          first = λ k low high. ap (in_chain c) (other_slot y k (λ s. omega (arith, s, low))) ∙ subst (λ d. in_chain d (slot_at xs k) ≡ false) named (to.first k (omega (arith, low, at.before)) high);
        }

    pub linked_held : AreLinked (set xs n y) (set (set links (most_slots + n) (get_or links place 0)) place n)
    linked_held = record {
      slots_long = length-set xs n y ∙ linked.slots_long;
      links_long = length-set (set links (most_slots + n) (get_or links place 0)) place n ∙ length-set links (most_slots + n) (get_or links place 0) ∙ linked.links_long;
      next = λ c from c_small link. elim (eqb_tells from (suc n)) [
        | inl t ↦
            subst (λ f. IsNext (set xs n y) c f (get_or new (link_place c f) 0)) (sym t.1)
            (subst (IsNext (set xs n y) c (suc n)) (sym (at_new place_apart)) (from_new c (sym (ap (in_chain c) (this_slot y)) ∙ subst (λ f. has_link (set xs n y) c f ≡ true) t.1 link)))
        | inr t ↦ elim (eqb_tells (link_place c from) place) [
          | inl here ↦ subst (IsNext (set xs n y) c from) (sym (ap (λ p. get_or new p 0) here.1 ∙ at_place)) (by_place c from c_small (old_link y c from t.1 link) here.1)
          | inr apart ↦ subst (IsNext (set xs n y) c from) (sym (at_other (link_place c from) apart.1 (apart_places c from c_small t.1))) (by_other c from c_small (old_link y c from t.1 link) apart.1)
        ]
      ];
    }

  -- ---- a slot loses its name

  module _ (chain place : ℕ) (small : chain < most_slots) (held : in_chain chain (slot_at xs n) ≡ true) (at : IsLinkTo xs chain n place) (over : n ≤ get_or links place 0) where
    before : IsNext xs chain at.from (get_or links place 0)
    before = leads xs links linked chain n place small at

    behind : IsNext xs chain (suc n) (get_or links (most_slots + n) 0)
    behind = linked.next chain (suc n) small held

    none_here : (c : ℕ) → in_chain c (slot_at (set xs n free_slot) n) ≡ false
    none_here c = ap (in_chain c) (this_slot free_slot)

    place_is_within : place < length links
    place_is_within = place_within xs links linked chain n place small (omega (arith, within)) at

    not_new : (c from : ℕ) → has_link (set xs n free_slot) c from ≡ true → from ≢ suc n
    not_new c from link e = both_ways _ (none_here c) (subst (λ f. has_link (set xs n free_slot) c f ≡ true) e link)

    over_it : (c from : ℕ) → c < most_slots → has_link xs c from ≡ true → link_place c from ≡ place → IsNext (set xs n free_slot) c from (get_or links (most_slots + n) 0)
    over_it c from c_small link e =
        let start : from ≡ at.from = same_place c chain from at.from c_small small (e ∙ at.here) in
        let named : chain ≡ c = sym (same_chain xs c chain from link (subst (λ f. has_link xs chain f ≡ true) (sym start) at.link) (e ∙ at.here ∙ ap (link_place chain) (sym start))) in
        let further = behind.behind in
        record {
          behind = omega (arith, start, at.before, further);
          within = omega (arith, behind.within, length-set xs n free_slot);
          there = λ l. ap (in_chain c) (other_slot free_slot (get_or links (most_slots + n) 0) (λ s. omega (arith, s, further))) ∙ subst (λ d. in_chain d (slot_at xs (get_or links (most_slots + n) 0)) ≡ true) named (behind.there (omega (arith, l, length-set xs n free_slot)));
          first = λ k low high. three_ways k n
              (λ less. ap (in_chain c) (other_slot free_slot k (λ s. omega (arith, s, less))) ∙ subst (λ d. in_chain d (slot_at xs k) ≡ false) named (before.first k (omega (arith, low, start)) (omega (arith, less, over))))
              (λ same. subst (λ m. in_chain c (slot_at (set xs n free_slot) m) ≡ false) (sym same) (none_here c))
              (λ more. ap (in_chain c) (other_slot free_slot k (λ s. omega (arith, s, more))) ∙ subst (λ d. in_chain d (slot_at xs k) ≡ false) named (behind.first k more high));
        }

    elsewhere : (c from : ℕ) → c < most_slots → has_link xs c from ≡ true → link_place c from ≢ place → IsNext (set xs n free_slot) c from (get_or links (link_place c from) 0)
    elsewhere c from c_small link e =
        let next = linked.next c from c_small link in
        record {
          behind = next.behind;
          within = omega (arith, next.within, length-set xs n free_slot);
          there = λ l. ap (in_chain c) (other_slot free_slot (get_or links (link_place c from) 0) (not_to next)) ∙ next.there (omega (arith, l, length-set xs n free_slot));
          first = λ k low high. elim (eqb_tells k n) [
            | inl t ↦ subst (λ m. in_chain c (slot_at (set xs n free_slot) m) ≡ false) (sym t.1) (none_here c)
            | inr t ↦ ap (in_chain c) (other_slot free_slot k t.1) ∙ next.first k low high
          ];
        }
      where
        not_to : IsNext xs c from (get_or links (link_place c from) 0) → get_or links (link_place c from) 0 ≢ n
        not_to next s =
            let here : in_chain c (slot_at xs n) ≡ true = subst (λ k. in_chain c (slot_at xs k) ≡ true) s (next.there (omega (arith, s, long))) in
            let named : chain ≡ c = sym (chain_is chain (slot_at xs n) held) ∙ chain_is c (slot_at xs n) here in
            let same : from ≡ at.from = one_link xs links linked c from at.from n c_small link (subst (λ d. has_link xs d at.from ≡ true) named at.link) (omega (arith, next.behind, s)) at.before (omega (arith, s)) (subst (λ p. n ≤ get_or links p 0) (at.here ∙ ap (λ d. link_place d at.from) named) over) in
            e (ap (link_place c) same ∙ ap (λ d. link_place d at.from) (sym named) ∙ sym at.here)

    pub linked_freed : AreLinked (set xs n free_slot) (set links place (get_or links (most_slots + n) 0))
    linked_freed = record {
      slots_long = length-set xs n free_slot ∙ linked.slots_long;
      links_long = length-set links place (get_or links (most_slots + n) 0) ∙ linked.links_long;
      next = λ c from c_small link.
          let old = old_link free_slot c from (not_new c from link) link in
          elim (eqb_tells (link_place c from) place) [
            | inl here ↦ subst (IsNext (set xs n free_slot) c from) (sym (ap (λ p. get_or (set links place (get_or links (most_slots + n) 0)) p 0) here.1 ∙ get_or-set_same links place (get_or links (most_slots + n) 0) 0 place_is_within)) (over_it c from c_small old here.1)
            | inr apart ↦ subst (IsNext (set xs n free_slot) c from) (sym (get_or-set_other links place (link_place c from) (get_or links (most_slots + n) 0) 0 apart.1)) (elsewhere c from c_small old apart.1)
          ];
    }

-- ---- a slot keeps its name

pub linked_same : (xs ys : List Slot) (links : List ℕ) → AreLinked xs links → length ys ≡ length xs → ((c n : ℕ) → in_chain c (slot_at ys n) ≡ in_chain c (slot_at xs n)) → AreLinked ys links
linked_same xs ys links linked long same = record {
  slots_long = long ∙ linked.slots_long;
  links_long = linked.links_long;
  next = λ c from small link.
      let next = linked.next c from small (sym (links_same c from) ∙ link) in
      record {
        behind = next.behind;
        within = omega (arith, next.within, long);
        there = λ l. same c (get_or links (link_place c from) 0) ∙ next.there (omega (arith, l, long));
        first = λ n low high. same c n ∙ next.first n low high;
      };
}
  where
    links_same : (c from : ℕ) → has_link ys c from ≡ has_link xs c from
    links_same c zero = refl
    links_same c (suc m) = same c m

-- ---- what is kept beside the slots

module _ (xs : List Slot) (links : List ℕ) (held first : ℕ) (found : AreFound xs links held first) (n : ℕ) (within : n < length xs) where
  abbrev one : Slot → ℕ
  one s = cond (not (is_free s)) 1 0

  counted : (y : Slot) → held_count (set xs n y) + one (slot_at xs n) ≡ held_count xs + one y
  counted y = sum_by-set one xs n y free_slot within

  same_free : (y : Slot) → is_free y ≡ false → (k : ℕ) → is_free (slot_at xs k) ≡ false → is_free (slot_at (set xs n y) k) ≡ false
  same_free y used k e = by (at_set xs n y k within)
    where
      by : ((k ≡ n) × (slot_at (set xs n y) k ≡ y)) ⊎ ((k ≢ n) × (slot_at (set xs n y) k ≡ slot_at xs k)) → is_free (slot_at (set xs n y) k) ≡ false
      by (inl s) = ap is_free s.1 ∙ used
      by (inr s) = ap is_free s.1 ∙ e

  -- the first free slot gets a name
  pub found_held : (y : Slot) (now : List ℕ) → AreLinked (set xs n y) now → is_free y ≡ false → position is_free xs ≡ Some n → AreFound (set xs n y) now (held + 1) (n + 1)
  found_held y now linked used is =
      let r = position-Some is_free xs n free_slot is in
      let more = counted y in
      let old : one (slot_at xs n) ≡ 0 = ap (λ b. cond (not b) 1 0) r.1 in
      let new : one y ≡ 1 = ap (λ b. cond (not b) 1 0) used in
      record {
        linked = linked;
        count = omega (arith, found.count, more, old, new);
        within = omega (arith, within, found.linked.slots_long);
        low = λ k l. three_ways k n (λ less. same_free y used k (r.2 k less)) (λ same. ap (λ m. is_free (slot_at (set xs n y) m)) same ∙ ap is_free (get_or-set_same xs n y free_slot within) ∙ used) (λ above. absurd (omega (arith, l, above)));
      }

  -- a slot loses its name
  pub found_freed : (now : List ℕ) → AreLinked (set xs n free_slot) now → is_free (slot_at xs n) ≡ false → AreFound (set xs n free_slot) now (held - 1) (min first n)
  found_freed now linked used =
      let less = counted free_slot in
      let old : one (slot_at xs n) ≡ 1 = ap (λ b. cond (not b) 1 0) used in
      let new : one free_slot ≡ 0 = refl in
      record {
        linked = linked;
        count = omega (arith, found.count, less, old, new);
        within = omega (arith, found.within);
        low = λ k l. ap is_free (get_or-set_other xs n k free_slot free_slot (λ s. omega (arith, s, l))) ∙ found.low k (omega (arith, l));
      }

  -- a slot keeps its name
  pub found_same : (y : Slot) → is_free (slot_at xs n) ≡ false → is_free y ≡ false → y.name ≡ (slot_at xs n).name → AreFound (set xs n y) links held first
  found_same y was used named =
      let same = counted y in
      let old : one (slot_at xs n) ≡ 1 = ap (λ b. cond (not b) 1 0) was in
      let new : one y ≡ 1 = ap (λ b. cond (not b) 1 0) used in
      record {
        linked = linked_same xs (set xs n y) links found.linked (length-set xs n y) (λ c k. by c k (at_set xs n y k within));
        count = omega (arith, found.count, same, old, new);
        within = found.within;
        low = λ k l. same_free y used k (found.low k l);
      }
    where
      by : (c k : ℕ) → ((k ≡ n) × (slot_at (set xs n y) k ≡ y)) ⊎ ((k ≢ n) × (slot_at (set xs n y) k ≡ slot_at xs k)) → in_chain c (slot_at (set xs n y) k) ≡ in_chain c (slot_at xs k)
      by c k (inl s) =
          ap (in_chain c) s.1 ∙ ap (λ b. not b && eqb (chain_of y.name) c) used ∙ ap (λ q. eqb (chain_of q) c) named
          ∙ sym (ap (λ b. not b && eqb (chain_of (slot_at xs n).name) c) was) ∙ ap (λ m. in_chain c (slot_at xs m)) (sym s.0)
      by c k (inr s) = ap (in_chain c) s.1

-- ---- the same, as the functions have it

module _ (xs : List Slot) (links : List ℕ) (linked : AreLinked xs links) (n : ℕ) where
  pub linked_with : (q : List ℕ) (s y : Slot) (chain place link : ℕ) → n < most_slots → y ≡ with_use q s → chain ≡ chain_of q → chain < most_slots → (slot_at xs n).uses ≡ 0
      → IsLinkTo xs chain n place → n ≤ get_or links place 0 → link ≡ get_or links place 0 → AreLinked (set xs n y) (set (set links (most_slots + n) link) place n)
  linked_with q s y chain place link within is named small free at over same =
      subst (λ z. AreLinked (set xs n z) (set (set links (most_slots + n) link) place n)) (sym is)
      (subst (λ v. AreLinked (set xs n (with_use q s)) (set (set links (most_slots + n) v) place n)) (sym same)
      (linked_held xs links linked n within (with_use q s) place (subst (λ c. c < most_slots) named small) (ne_eqb (s.uses + 1) 0 (λ z. absurd (omega (arith, z)))) (eq-eqb (slot_at xs n).uses 0 free) (subst (λ c. IsLinkTo xs c n place) named at) over))

  pub linked_without : (y : Slot) (chain place link : ℕ) → y ≡ free_slot → chain ≡ chain_of (slot_at xs n).name → chain < most_slots → (slot_at xs n).uses ≡ 1
      → IsLinkTo xs chain n place → n ≤ get_or links place 0 → link ≡ get_or links (most_slots + n) 0 → AreLinked (set xs n y) (set links place link)
  linked_without y chain place link is named small last at over same =
      subst (λ z. AreLinked (set xs n z) (set links place link)) (sym is)
      (subst (λ v. AreLinked (set xs n free_slot) (set links place v)) (sym same)
      (linked_freed xs links linked n (omega (arith, used_within xs n (omega (arith, last)), linked.slots_long)) chain place small (used_in_chain chain (slot_at xs n) (ne_eqb (slot_at xs n).uses 0 (λ z. omega (arith, z, last))) (sym named)) at over))

module _ (xs : List Slot) (links : List ℕ) (held first : ℕ) (found : AreFound xs links held first) (n : ℕ) where
  pub found_more : (q : List ℕ) (s y : Slot) (r : Bool) → s ≡ slot_at xs n → n < length xs → is_free s ≡ false → y ≡ cond r (with_use s.name s) s → AreFound (set xs n y) links held first
  found_more q s y r here within used is =
      found_same xs links held first found n within y (sym (ap is_free here) ∙ used) (ap is_free is ∙ still r) (ap (λ (z : Slot). z.name) is ∙ named r ∙ ap (λ (z : Slot). z.name) here)
    where
      still : (r : Bool) → is_free (cond r (with_use s.name s) s) ≡ false
      still true = ne_eqb (s.uses + 1) 0 (λ z. absurd (omega (arith, z)))
      still false = used

      named : (r : Bool) → (cond r (with_use s.name s) s).name ≡ s.name
      named true = refl
      named false = refl

  pub found_less : (s y : Slot) → s ≡ slot_at xs n → 1 < s.uses → y ≡ without_use s → AreFound (set xs n y) links held first
  found_less s y here some is =
      found_same xs links held first found n (used_within xs n (subst (λ (z : Slot). 0 < z.uses) here (omega (arith, some)))) y
      (sym (ap is_free here) ∙ ne_eqb s.uses 0 (λ z. omega (arith, z, some)))
      (ap is_free (is ∙ less) ∙ ne_eqb (s.uses - 1) 0 (λ z. omega (arith, z, some)))
      (ap (λ (z : Slot). z.name) (is ∙ less) ∙ ap (λ (z : Slot). z.name) here)
    where
      less : without_use s ≡ slot_with s.name (s.uses - 1)
      less = ap (λ b. cond b free_slot (slot_with s.name (s.uses - 1))) (ne_eqb s.uses 1 (λ z. omega (arith, z, some)))

-- a slot without its last use is free
pub emptied : (s y : Slot) → s.uses ≡ 1 → y ≡ without_use s → y ≡ free_slot
emptied s y last is = is ∙ ap (λ b. cond b free_slot (slot_with s.name (s.uses - 1))) (eq-eqb s.uses 1 last)

-- no slot of free ones is held
pub held_none : (xs : List Slot) → All (λ s. s ≡ free_slot) xs → held_count xs ≡ 0
held_none [] h = refl
held_none (x ∷ xs) h =
    let parts = sum_by-cons (λ (s : Slot). cond (not (is_free s)) 1 0) x xs in
    let head : ◌≡◌ {A = ℕ} (cond (not (is_free x)) 1 0) 0 = ap (λ (s : Slot). cond (not (is_free s)) 1 0) (h 0 x (omega arith)) in
    let tail = held_none xs (All-tail (λ s. s ≡ free_slot) x xs h) in
    omega (arith, parts, head, tail)

-- a name that gets a free slot gets the first one
pub first_free : (q : List ℕ) (xs : List Slot) (n : ℕ) → number_for q xs ≡ Some n → is_free (slot_at xs n) ≡ true → position is_free xs ≡ Some n
first_free q xs n e free = elim (number_cases (slot_of q xs) (position is_free xs) n e) [
  | inl t ↦ absurd (both_ways (is_free (slot_at xs n)) (held_used q (slot_at xs n) (number_within q xs n t).1) free)
  | inr t ↦ t.1
]

-- a step along a chain, of which the numbers and the slot are read
pub link_on : (xs : List Slot) (links : List ℕ) → AreLinked xs links → (c n place tested read link : ℕ) → c < most_slots → n < most_slots → IsLinkTo xs c n place
    → tested ≡ get_or links place tested → tested < n → read ≡ get_or links place read → link ≡ read → IsLinkTo xs c n (most_slots + link) × (n - get_or links (most_slots + link) 0 < n - get_or links place 0)
link_on xs links linked c n place tested read link small most at is less same link_is =
    let within = place_within xs links linked c n place small (omega (arith, most)) at in
    let first = get_or_read links place tested within is 0 in
    let there : link ≡ get_or links place 0 = link_is ∙ get_or_read links place read within same 0 in
    let under : get_or links place 0 < n = omega (arith, first, less) in
    let further = link_further xs links linked c n place small (omega (arith, most)) at under in
    subst (λ l. IsLinkTo xs c n (most_slots + l) × (n - get_or links (most_slots + l) 0 < n - get_or links place 0)) (sym there)
    (link_after xs links linked c n place small (omega (arith, most)) at under, omega (arith, further, under))

pub look_on : (xs : List Slot) (links : List ℕ) → AreLinked xs links → (q : List ℕ) (chain number read link : ℕ) (s : Slot) (held : Bool) → chain ≡ chain_of q → chain < most_slots → Looking xs q number → number < most_slots
    → s ≡ get_or xs number s → held ≡ holds q s → held ≡ false → read ≡ get_or links (most_slots + number) read → link ≡ read → Looking xs q link × (number < link)
look_on xs links linked q chain number read link s held named small at l here tested other same link_is =
    let there = link_is ∙ get_or_read links (most_slots + number) read (omega (arith, l, linked.links_long)) same 0 in
    let not_here = sym (ap (holds q) (get_or_read xs number s (omega (arith, l, linked.slots_long)) here free_slot)) ∙ sym tested ∙ other in
    subst (λ m. Looking xs q m × (number < m)) (sym there) (look_next xs links linked q (subst (λ k. k < most_slots) named small) number at l not_here)

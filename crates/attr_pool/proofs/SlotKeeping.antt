-- Names keep their slots while uses come and go.
use Rattle.std.proofs.Common.{◌≡◌, ◌≢◌, ℕ, ◌+◌, ◌-◌, ◌<◌, length, inl, inr, Bool, true, false, not, ◌&&◌, ◌⊎◌, cond, List, None, Some, position, set, eqb, sym, refl, ◌∙◌, ap, arith, bytes_eq, ne_eqb}
use Rattle.std.proofs.lemmas.List.Quantifiers.{position-Some}
use Rattle.ctrl_model.proofs.DistinctLaws.{same_name}
use Rattle.attr_pool.specs.Slots.{Slot, slot_with, free_slot, is_free, holds, slot_at, slot_of, number_for, with_use, without_use, IsPool}
use Rattle.attr_pool.specs.Uses.{uses_of, KeepsSlots}
use Rattle.attr_pool.proofs.SlotLemmas.{held_name, held_used, used_within, none_holds, number_within, number_cases, number_fits, at_set}
use Rattle.attr_pool.proofs.UseLaws.{uses-none, uses-held, uses_at_number, released}

-- one change after another
pub kept-then : (first middle last : List Slot) → KeepsSlots first middle → KeepsSlots middle last
    → ((q : List ℕ) → 0 < uses_of q first → 0 < uses_of q last → 0 < uses_of q middle) → KeepsSlots first last
kept-then first middle last f g between q u v n = g q (between q u v) v n ∙ f q u (between q u v) n

-- what a slot with uses holds is told by its name alone
used_holds : (q : List ℕ) (s : Slot) → is_free s ≡ false → holds q s ≡ bytes_eq s.name q
used_holds q s e = ap (λ b. not b && bytes_eq s.name q) e

other_name : (s : Slot) (q : List ℕ) → bytes_eq s.name q ≡ false → holds q s ≡ false
other_name s q e = by (is_free s) (bytes_eq s.name q) e
  where
    by : (f d : Bool) → d ≡ false → (not f && d) ≡ false
    by true d e = refl
    by false d e = e

free_holds : (q : List ℕ) (s : Slot) → is_free s ≡ true → holds q s ≡ false
free_holds q s e = ap (λ b. not b && bytes_eq s.name q) e

one_set : (q : List ℕ) (old new : List Slot) (p : ℕ) (y : Slot) → p < length old → new ≡ set old p y → holds q y ≡ holds q (slot_at old p)
    → (n : ℕ) → holds q (slot_at new n) ≡ holds q (slot_at old n)
one_set q old new p y within e same n =
    ap (λ (xs : List Slot). holds q (slot_at xs n)) e ∙ by (at_set old p y n within)
  where
    by : ((n ≡ p) × (slot_at (set old p y) n ≡ y)) ⊎ ((n ≢ p) × (slot_at (set old p y) n ≡ slot_at old n)) → holds q (slot_at (set old p y) n) ≡ holds q (slot_at old n)
    by (inl s) = ap (holds q) s.1 ∙ same ∙ ap (λ k. holds q (slot_at old k)) (sym s.0)
    by (inr s) = ap (holds q) s.1

pub kept-interned : (name : List ℕ) (old new : List Slot) (p : ℕ) → IsPool old → number_for name old ≡ Some p → new ≡ set old p (with_use name (slot_at old p)) → KeepsSlots old new
kept-interned name old new p pool found e q u v n =
    one_set q old new p (with_use name (slot_at old p)) (number_fits name old p found).0 e (by (number_cases (slot_of name old) (position is_free old) p found)) n
  where
    used : is_free (with_use name (slot_at old p)) ≡ false
    used = ne_eqb ((slot_at old p).uses + 1) 0 (λ z. absurd (omega (arith, z)))

    new_name : (b : Bool) → bytes_eq name q ≡ b → slot_of name old ≡ None → bytes_eq name q ≡ false
    new_name true is none = let none_used = uses-none name old (none_holds name old none) in let same = ap (λ x. uses_of x old) (same_name name q is) in absurd (omega (arith, u, none_used, same))
    new_name false is none = is

    by : (slot_of name old ≡ Some p) ⊎ ((slot_of name old ≡ None) × (position is_free old ≡ Some p)) → holds q (with_use name (slot_at old p)) ≡ holds q (slot_at old p)
    by (inl t) =
        let held = (number_within name old p t).1 in
        used_holds q (with_use name (slot_at old p)) used ∙ ap (λ x. bytes_eq x q) (sym (held_name name (slot_at old p) held)) ∙ sym (used_holds q (slot_at old p) (held_used name (slot_at old p) held))
    by (inr t) =
        used_holds q (with_use name (slot_at old p)) used ∙ new_name (bytes_eq name q) refl t.0 ∙ sym (free_holds q (slot_at old p) (position-Some is_free old p free_slot t.1).1)

pub kept-released : (name : List ℕ) (old new : List Slot) (p : ℕ) → IsPool old → slot_of name old ≡ Some p → 0 < uses_of name old → new ≡ set old p (without_use (slot_at old p)) → KeepsSlots old new
kept-released name old new p pool found some e q u v n =
    one_set q old new p (without_use s) (used_within old p at_number.0) e (by (bytes_eq name q) refl) n
  where
    s : Slot
    s = slot_at old p

    at_number : (0 < (slot_at old p).uses) × ((slot_at old p).name ≡ name)
    at_number = uses_at_number name old p pool found some

    less : uses_of q new + cond (bytes_eq name q) 1 0 ≡ uses_of q old
    less = released q name old new p pool found some e

    other : (d : Bool) → bytes_eq s.name q ≡ false → holds q (cond d free_slot (slot_with s.name (s.uses - 1))) ≡ false
    other true is = refl
    other false is = other_name (slot_with s.name (s.uses - 1)) q is

    more : 1 < s.uses → holds q (without_use s) ≡ holds q s
    more l =
        ap (λ b. holds q (cond b free_slot (slot_with s.name (s.uses - 1)))) (ne_eqb s.uses 1 (λ z. absurd (omega (arith, z, l))))
        ∙ used_holds q (slot_with s.name (s.uses - 1)) (ne_eqb (s.uses - 1) 0 (λ z. absurd (omega (arith, z, l))))
        ∙ sym (used_holds q s (ne_eqb s.uses 0 (λ z. absurd (omega (arith, z, l)))))

    by : (b : Bool) → bytes_eq name q ≡ b → holds q (without_use s) ≡ holds q s
    by true is =
        let one : uses_of q new + 1 ≡ uses_of q old = ap (λ b. uses_of q new + cond b 1 0) (sym is) ∙ less in
        let own = uses-held name old p pool found in
        let same = ap (λ x. uses_of x old) (same_name name q is) in
        more (omega (arith, one, own, same, v))
    by false is =
        let named = ap (λ x. bytes_eq x q) at_number.1 ∙ is in
        other (eqb s.uses 1) named ∙ sym (other_name s q named)

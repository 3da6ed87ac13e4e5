-- The rows of small lists of names, bit for bit.
use Rattle.std.proofs.Common.{◌≡◌, ℕ, zero, suc, ◌<◌, List, [], ◌∷◌, ◌++◌, cond, codes, length, get_or, eqb, refl, ◌∙◌, ap, arith, inl, inr, ne_eqb, subst, IsSome}
use Rattle.bit_lanes.specs.Lanes.{bit_of, bit_row}
use Rattle.ctrl_model.specs.Membership.{Among}
use Rattle.attr_pool.specs.AttributeRows.{row_words, AreRows}
use Rattle.attr_pool.specs.Slots.{slot_of, row_bit}
use Rattle.attr_pool.specs.WorkedSlots.{four_slots, two_lists, row_from}
use Rattle.attr_pool.proofs.BitRows.{bit_of-none, bit_of-set}

blue_bits : (n : ℕ) → bit_of (row_from 4) n ≡ row_bit four_slots (codes "blue" ∷ []) n
blue_bits n = bit_of-set (row_from 0) 2 (omega arith) n ∙ ap (λ b. cond (eqb n 2) 1 b) (bit_of-none n) ∙ by n
  where
    by : (n : ℕ) → cond (eqb n 2) 1 0 ≡ row_bit four_slots (codes "blue" ∷ []) n
    by zero = refl
    by (suc zero) = refl
    by (suc (suc zero)) = refl
    by (suc (suc (suc zero))) = refl
    by (suc (suc (suc (suc n)))) = ap (λ b. cond b 1 0) (ne_eqb (suc (suc (suc (suc n)))) 2 (λ e. omega (arith, e)))

both_bits : (n : ℕ) → bit_of (row_from 5) n ≡ row_bit four_slots (codes "blue" ∷ codes "red" ∷ []) n
both_bits n = bit_of-set (row_from 4) 0 (omega arith) n ∙ ap (λ b. cond (eqb n 0) 1 b) (blue_bits n) ∙ by n
  where
    by : (n : ℕ) → cond (eqb n 0) 1 (row_bit four_slots (codes "blue" ∷ []) n) ≡ row_bit four_slots (codes "blue" ∷ codes "red" ∷ []) n
    by zero = refl
    by (suc zero) = refl
    by (suc (suc zero)) = refl
    by (suc (suc (suc zero))) = refl
    by (suc (suc (suc (suc n)))) = ap (λ b. cond b 1 0) (ne_eqb (suc (suc (suc (suc n)))) 0 (λ e. omega (arith, e)))

held_each : (place : ℕ) → place < length two_lists → (name : List ℕ) → Among name (get_or two_lists place []) → IsSome (slot_of name four_slots)
held_each zero l name (inl e) = subst (λ q. IsSome (slot_of q four_slots)) e refl
held_each zero l name (inr none) = absurd none
held_each (suc zero) l name (inl e) = subst (λ q. IsSome (slot_of q four_slots)) e refl
held_each (suc zero) l name (inr (inl e)) = subst (λ q. IsSome (slot_of q four_slots)) e refl
held_each (suc zero) l name (inr (inr none)) = absurd none
held_each (suc (suc place)) l name among = absurd (omega (arith, l))

bits_each : (place : ℕ) → place < length two_lists → (n : ℕ) → bit_of (bit_row (row_from 4 ++ row_from 5) row_words place) n ≡ row_bit four_slots (get_or two_lists place []) n
bits_each zero l n = blue_bits n
bits_each (suc zero) l n = both_bits n
bits_each (suc (suc place)) l n = absurd (omega (arith, l))

pub rows_of_two_lists : AreRows four_slots two_lists (row_from 4 ++ row_from 5)
rows_of_two_lists = record {
  held = held_each;
  long = refl;
  bits = bits_each;
}

-- The bits of a row without any, and a bit that is set in a row.
use Rattle.std.proofs.Common.{◌≡◌, ◌≢◌, ℕ, ◌*◌, ◌/◌, ◌%◌, ◌^◌, ◌<◌, cond, List, length, get_or, replicate, set, eqb, sym, ap, ◌∙◌, inl, inr, arith, bit_or, w64}
use Rattle.std.specs.Int.{bit_at}
use Rattle.std.proofs.lemmas.Bool.Decides.{eqb_tells, leb_tells}
use Rattle.std.proofs.lemmas.List.{get_or-replicate, get_or_past, get_or-set_same, get_or-set_other}
use Rattle.std.proofs.lemmas.Nat.Bits.{bit_at-zero, bit_at_set_same, bit_at_set_other}
use Rattle.bit_lanes.specs.Lanes.{bit_of}
use Rattle.attr_pool.specs.AttributeRows.{row_words}

-- the bits of a row whose words are all 0
pub bit_of-none : (n : ℕ) → bit_of (replicate row_words 0) n ≡ 0
bit_of-none n = elim (leb_tells row_words (n / 64)) [
  | inl t ↦ ap (λ x. bit_at x (n % 64)) (get_or_past (replicate row_words 0) (n / 64) 0 t.1) ∙ bit_at-zero (n % 64)
  | inr t ↦ ap (λ x. bit_at x (n % 64)) (get_or-replicate row_words (n / 64) 0 0 (omega (arith, t.1))) ∙ bit_at-zero (n % 64)
]

apart_in_word : (n m : ℕ) → n ≢ m → n / 64 ≡ m / 64 → n % 64 ≢ m % 64
apart_in_word n m f e g = f (omega arith)

in_word : (m : ℕ) → m % 64 < 64
in_word m = omega arith

pub bit_of-set : (row : List ℕ) (m : ℕ) → m / 64 < length row → (n : ℕ) → bit_of (set row (m / 64) (bit_or (get_or row (m / 64) 0) (1 * 2 ^ (m % 64) % 2 ^ 64))) n ≡ cond (eqb n m) 1 (bit_of row n)
bit_of-set row m h n =
    let word = get_or row (m / 64) 0 in
    let new = set row (m / 64) (bit_or word (1 * 2 ^ (m % 64) % 2 ^ 64)) in
    elim (eqb_tells n m) [
      | inl t ↦
          ap (bit_of new) t.1
          ∙ ap (λ x. bit_at x (m % 64)) (get_or-set_same row (m / 64) (bit_or word (1 * 2 ^ (m % 64) % 2 ^ 64)) 0 h)
          ∙ bit_at_set_same w64 word (m % 64) (in_word m)
          ∙ sym (ap (λ b. cond b 1 (bit_of row n)) t.0)
      | inr t ↦
          elim (eqb_tells (n / 64) (m / 64)) [
            | inl s ↦
                ap (λ k. bit_at (get_or new k 0) (n % 64)) s.1
                ∙ ap (λ x. bit_at x (n % 64)) (get_or-set_same row (m / 64) (bit_or word (1 * 2 ^ (m % 64) % 2 ^ 64)) 0 h)
                ∙ bit_at_set_other w64 word (m % 64) (in_word m) (n % 64) (apart_in_word n m t.1 s.1)
                ∙ sym (ap (λ k. bit_at (get_or row k 0) (n % 64)) s.1)
                ∙ sym (ap (λ b. cond b 1 (bit_of row n)) t.0)
            | inr s ↦
                ap (λ x. bit_at x (n % 64)) (get_or-set_other row (m / 64) (n / 64) (bit_or word (1 * 2 ^ (m % 64) % 2 ^ 64)) 0 s.1)
                ∙ sym (ap (λ b. cond b 1 (bit_of row n)) t.0)
          ]
    ]

use Rattle.std.proofs.Common.{◌≡◌, ℕ, zero, suc, ◌<◌, [], ◌∷◌, true, refl, arith}
use Rattle.bit_lanes.specs.Lanes.{bit_of}
use Rattle.bit_lanes.specs.Words.{has_all, has_none}
use Rattle.bit_lanes.proofs.BitLemmas.{all_to, any_none}
use Rattle.bit_lanes.proofs.worked.worked_rows.Goals as goal

not_one : (n : ℕ) → n ≡ 1 → n ≡ 0 → ⊥
not_one n e z = omega arith

first_word : (P : ℕ → Type 0) → P 0 → (n : ℕ) → n < 1 → P n
first_word P p zero few = p
first_word P p (suc n) few = absurd (omega arith)

both_words : (P : ℕ → Type 0) → P 0 → P 1 → (n : ℕ) → n < 2 → P n
both_words P p q zero few = p
both_words P p q (suc zero) few = q
both_words P p q (suc (suc n)) few = absurd (omega arith)

pub returns : goal.returns
returns c = record {
  all = all_to (7 ∷ 1 ∷ []) (5 ∷ 0 ∷ []) refl (both_words (λ n. has_all (7 ∷ 1 ∷ []) (5 ∷ 0 ∷ []) n ≡ true) refl refl);
  one_missing = λ f. not_one (bit_of (5 ∷ 1 ∷ []) 1) (f 1 refl) refl;
  some = (2, refl, refl);
  none_common = λ any. any_none (5 ∷ 1 ∷ []) (2 ∷ 2 ∷ []) refl (both_words (λ n. has_none (5 ∷ 1 ∷ []) (2 ∷ 2 ∷ []) n ≡ true) refl refl) any;
  all_of_nothing = all_to (5 ∷ []) (0 ∷ []) refl (first_word (λ n. has_all (5 ∷ []) (0 ∷ []) n ≡ true) refl);
  some_of_nothing = λ any. any_none (5 ∷ []) (0 ∷ []) refl (first_word (λ n. has_none (5 ∷ []) (0 ∷ []) n ≡ true) refl) any;
}

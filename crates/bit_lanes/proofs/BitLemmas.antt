-- From what the calls mean to what is tested at each place, and back.
use Rattle.std.proofs.Common.{◌≡◌, ℕ, ◌+◌, ◌*◌, ◌/◌, ◌%◌, ◌^◌, ◌<◌, ◌≤◌, ◌↔◌, ◌≢◌, min, Bool, true, false, List, length, get_or, refl, sym, ap, ap₂, ◌==◌, ◌∙◌, inl, inr, arith, bit_and, IsTrue, not, w64}
use Rattle.std.specs.Bool.{OnTrue, OnFalse}
use Rattle.std.specs.Int.{bit_at, trailing_zeros}
use Rattle.std.proofs.lemmas.Bool.{eqb-true, eqb-false, eq-eqb, leb-true, le-leb, both_ways}
use Rattle.std.proofs.lemmas.Bool.Decides.{eqb_tells, leb_tells}
use Rattle.std.proofs.lemmas.List.{get_or_past}
use Rattle.std.proofs.lemmas.Nat.{and_le_r}
use Rattle.std.proofs.lemmas.Nat.Bits.{bit_at-lt, bit_at-zero, bit_at_and, same_from_bits_below, bit_at-trailing_zeros}
use Rattle.bit_lanes.specs.Lanes.{bit_of, AllIn, AnyIn, Sweeps}
use Rattle.bit_lanes.specs.Words.{has_all, has_none, is_at_most}

least_one : (a b c : ℕ) → c ≡ min a b → c ≡ 1 → a < 2 → b < 2 → (a ≡ 1) × (b ≡ 1)
least_one a b c e h p q = (omega arith, omega arith)

least_where : (a b : ℕ) → a < 2 → b < 2 → (b ≡ 1 → a ≡ 1) → min a b ≡ b
least_where a b p q f = elim (eqb_tells b 1) [ inl t ↦ (let g : a ≡ 1 = f t.1 in omega arith) | inr t ↦ omega arith ]

least_none : (a b : ℕ) → min a b ≡ 0 → a ≡ 1 → b ≡ 1 → ⊥
least_none a b e p q = omega arith

-- a word that keeps all of another has its bits
bit_kept : (h w i : ℕ) → bit_and h w ≡ w → bit_at w i ≡ 1 → bit_at h i ≡ 1
bit_kept h w i e b = (least_one (bit_at h i) (bit_at w i) (bit_at (bit_and h w) i) (bit_at_and h w i) (ap (λ x. bit_at x i) e ∙ b) (bit_at-lt h i) (bit_at-lt w i)).0

-- a word that has the bits of another keeps all of it
word_kept : (h w : ℕ) → w < 2 ^ 64 → ((i : ℕ) → i < 64 → bit_at w i ≡ 1 → bit_at h i ≡ 1) → bit_and h w ≡ w
word_kept h w fits f =
    let below : bit_and h w ≤ w = and_le_r h w in
    let less : bit_and h w < 2 ^ 64 = omega arith in
    same_from_bits_below 64 (bit_and h w) w less fits (λ i p. bit_at_and h w i ∙ least_where (bit_at h i) (bit_at w i) (bit_at-lt h i) (bit_at-lt w i) (f i p))

-- no common bit
bits_apart : (h w i : ℕ) → bit_and h w ≡ 0 → bit_at h i ≡ 1 → bit_at w i ≡ 1 → ⊥
bits_apart h w i e p q = least_none (bit_at h i) (bit_at w i) (sym (bit_at_and h w i) ∙ ap (λ x. bit_at x i) e ∙ bit_at-zero i) p q

-- some common bit
common_bit : (h w : ℕ) → w < 2 ^ 64 → 0 < bit_and h w → (i : ℕ) × (i < 64) × (bit_at h i ≡ 1) × (bit_at w i ≡ 1)
common_bit h w fits some =
    let below : bit_and h w ≤ w = and_le_r h w in
    let less : bit_and h w < 2 ^ 64 = omega arith in
    let n = bit_and h w in
    let i = trailing_zeros w64 n in
    let z = bit_at-trailing_zeros w64 n some less in
    let both = least_one (bit_at h i) (bit_at w i) (bit_at n i) (bit_at_and h w i) z.1 (bit_at-lt h i) (bit_at-lt w i) in
    (i, z.0, both.0, both.1)

low_place : (n : ℕ) → n % 64 < 64
low_place n = omega arith

word_of_place : (k i : ℕ) → i < 64 → (k * 64 + i) / 64 ≡ k
word_of_place k i p = omega arith

bit_of_place : (k i : ℕ) → i < 64 → (k * 64 + i) % 64 ≡ i
bit_of_place k i p = omega arith

-- the bit of a row at a bit of one of its words
row_bit : (row : List ℕ) (k i : ℕ) → i < 64 → bit_of row (k * 64 + i) ≡ bit_at (get_or row k 0) i
row_bit row k i p = rw (word_of_place k i p, bit_of_place k i p)

-- a test that zeros pass, and that each pair of words of two rows passes, passes past their ends too
past_ends : (test : ℕ → ℕ → Bool) (have want : List ℕ) → length have ≡ length want → test 0 0 ≡ true
    → ((k : ℕ) → k < min (length have) (length want) → test (get_or have k 0) (get_or want k 0) ≡ true)
    → (k : ℕ) → test (get_or have k 0) (get_or want k 0) ≡ true
past_ends test have want same none f k =
    elim (leb_tells (length have) k) [
      | inl past ↦ let p = past.1 in ap₂ test (get_or_past have k 0 p) (get_or_past want k 0 (omega arith)) ∙ none
      | inr place ↦ let p = place.1 in f k (omega arith)
    ]

pub all_to : (have want : List ℕ) → length have ≡ length want
    → ((k : ℕ) → k < min (length have) (length want) → has_all have want k ≡ true) → AllIn have want
all_to have want same f n b = bit_kept _ _ (n % 64) (eqb-true _ _ (past_ends (λ h w. bit_and h w == w) have want same refl f (n / 64))) b

all_from : (have want : List ℕ) → ((k : ℕ) → get_or want k 0 < 2 ^ 64) → AllIn have want → (k : ℕ) → has_all have want k ≡ true
all_from have want fit f k =
    eq-eqb _ _ (word_kept (get_or have k 0) (get_or want k 0) (fit k)
    (λ i p b. sym (row_bit have k i p) ∙ f (k * 64 + i) (row_bit want k i p ∙ b)))

-- each bit is in the other row just where each word is
pub AllIn-words : (have want : List ℕ) (b : Bool) → length have ≡ length want → ((k : ℕ) → get_or want k 0 < 2 ^ 64)
    → OnTrue b ((k : ℕ) → k < min (length have) (length want) → has_all have want k ≡ true)
    → OnFalse b ((k : ℕ) × (k < min (length have) (length want)) × (has_all have want k ≡ false))
    → IsTrue b ↔ AllIn have want
AllIn-words have want true same fit all some = (λ yes. all_to have want same all, λ f. refl)
AllIn-words have want false same fit all some = (λ no. absurd (cc), λ f. absurd (both_ways _ some.2 (all_from have want fit f some.0)))

pub any_none : (have want : List ℕ) → length have ≡ length want
    → ((k : ℕ) → k < min (length have) (length want) → has_none have want k ≡ true) → AnyIn have want → ⊥
any_none have want same f any =
    bits_apart _ _ (any.0 % 64) (eqb-true _ _ (past_ends (λ h w. bit_and h w == 0) have want same refl f (any.0 / 64))) any.1 any.2

above_zero : (n : ℕ) → n ≢ 0 → 0 < n
above_zero n f = omega arith

any_to : (have want : List ℕ) → ((k : ℕ) → get_or want k 0 < 2 ^ 64) → (k : ℕ) → has_none have want k ≡ false → AnyIn have want
any_to have want fit k failing =
    let some = above_zero (bit_and (get_or have k 0) (get_or want k 0)) (eqb-false _ _ failing) in
    let bit = common_bit (get_or have k 0) (get_or want k 0) (fit k) some in
    (k * 64 + bit.0, row_bit have k bit.0 bit.1 ∙ bit.2, row_bit want k bit.0 bit.1 ∙ bit.3)

-- some bit is in both rows just where the words are not all apart
pub AnyIn-words : (have want : List ℕ) (b : Bool) → length have ≡ length want → ((k : ℕ) → get_or want k 0 < 2 ^ 64)
    → OnTrue b ((k : ℕ) → k < min (length have) (length want) → has_none have want k ≡ true)
    → OnFalse b ((k : ℕ) × (k < min (length have) (length want)) × (has_none have want k ≡ false))
    → IsTrue (not b) ↔ AnyIn have want
AnyIn-words have want true same fit all some = (λ no. absurd (cc), λ any. absurd (any_none have want same all any))
AnyIn-words have want false same fit all some = (λ yes. any_to have want fit some.0 some.2, λ any. refl)

-- the left numbers are at most the others together just where each is
pub Sweeps-words : (left cost right : List ℕ) (b : Bool) → length cost ≡ length left → length right ≡ length left
    → OnTrue b ((k : ℕ) → k < min (length left) (min (length cost) (length right)) → is_at_most left cost right k ≡ true)
    → OnFalse b ((k : ℕ) × (k < min (length left) (min (length cost) (length right))) × (is_at_most left cost right k ≡ false))
    → IsTrue b ↔ Sweeps left cost right
Sweeps-words left cost right true costs rights all some = (λ yes k place. leb-true _ _ (all k (omega arith)), λ f. refl)
Sweeps-words left cost right false costs rights all some = (
  λ no. absurd (cc),
  λ f.
      let place : some.0 < length left = omega (arith, some.1) in absurd (both_ways _ some.2 (le-leb _ _ (f some.0 place))),
)

-- Numbers that words write.
use Rattle.std.proofs.Common.{◌≡◌, ℕ, ◌<◌, ◌≤◌, ◌^◌, ◌&&◌, inl, inr, Bool, true, false, cond, List, [], ◌∷◌, length, None, Some, Ok, Err, sym, ap, ◌∙◌, arith, ltb, rules}
use Rattle.std.specs.declared.option.Option.{Option}
use Rattle.std.specs.declared.result.Result.{Result}
use Rattle.std.specs.Result.{result_ok, OkIff}
use Rattle.std.specs.Char.{is_ascii_digit}
use Rattle.std.specs.List.{list_all}
use Rattle.std.specs.Str.Parse.{digits_value, ParsesUnsigned}
use Rattle.std.proofs.lemmas.Bool.{cases_lt, lt-ltb, le-ltb}
use Rattle.std.proofs.lemmas.Str.Parse.{IsNumeralModel, IsDigitsTest, numerals_by_value, parse_digits}
use Rattle.std.specs.Str.{IsUtf8}
use Rattle.std.proofs.lemmas.Str.{IsUtf8-from_ascii}
use Rattle.std.proofs.lemmas.Fmt.{IsAscii-from_digits}
use Rattle.frame_lines.specs.LineWords.{are_digits, is_plain, number_in}

-- the test of digits tells the texts of digits
digits_test : IsDigitsTest (λ word. list_all is_ascii_digit word ≡ true)
digits_test = search rules

pub model : IsNumeralModel (λ word. list_all is_ascii_digit word ≡ true) (digits_value 10)
model = numerals_by_value (λ word. list_all is_ascii_digit word ≡ true) digits_test

and_right : (a b : Bool) → (a && b) ≡ true → b ≡ true
and_right true b is = is
and_right false b is = cc

pub number_plain : (word : List ℕ) → are_digits word ≡ true → is_plain word ≡ true
    → number_in word ≡ cond (ltb (digits_value 10 word) (2 ^ 32)) (Some (digits_value 10 word)) None
number_plain word digits plain =
    let v : ℕ = digits_value 10 word in
    ap (λ (t : Bool). cond (t && (is_plain word && ltb v (2 ^ 32))) (Some v) None) digits
    ∙ ap (λ (t : Bool). cond (t && ltb v (2 ^ 32)) (Some v) None) plain

high : (v n : ℕ) → 0 < n → ((0 < n) × (v < 2 ^ 32) → ⊥) → 2 ^ 32 ≤ v
high v n lt h = elim (cases_lt v (2 ^ 32)) [ inl low ↦ absurd (h (lt, low)) | inr le ↦ le ]

parsed_as : {E : Type 0} (v n : ℕ) (r : Result ℕ E) → 0 < n → OkIff r ((0 < n) × (v < 2 ^ 32)) v → result_ok r ≡ cond (ltb v (2 ^ 32)) (Some v) None
parsed_as v n (Ok x) lt h = ap Some h.1 ∙ sym (ap (λ (t : Bool). cond {A = Option ℕ} t (Some v) None) (lt-ltb v (2 ^ 32) h.0.1))
parsed_as v n (Err e) lt h = sym (ap (λ (t : Bool). cond {A = Option ℕ} t (Some v) None) (le-ltb v (2 ^ 32) (high v n lt h)))

pub parsed : {E : Type 0} (word : List ℕ) (r : Result ℕ E) → are_digits word ≡ true → is_plain word ≡ true → 0 < length word → ParsesUnsigned 32 10 word r
    → result_ok r ≡ number_in word
parsed word r digits plain lt h =
    parsed_as (digits_value 10 word) (length word) r lt (parse_digits model 32 word r h (and_right _ _ digits)) ∙ sym (number_plain word digits plain)

-- digits are text
pub digits_are_text : (word : List ℕ) → are_digits word ≡ true → IsUtf8 word
digits_are_text word digits = IsUtf8-from_ascii word (IsAscii-from_digits word (model.to word (and_right _ _ digits)))

pub digits_nonempty : (word : List ℕ) → are_digits word ≡ true → 0 < length word
digits_nonempty [] digits = cc
digits_nonempty (b ∷ word) digits = omega arith

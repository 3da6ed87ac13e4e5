-- The words that have a number below a bound are the decimal texts of the numbers below it.
use Rattle.std.proofs.Common.{◌≡◌, ℕ, zero, suc, ◌<◌, ◌≤◌, ◌^◌, ◌⊎◌, inl, inr, true, false, List, [], ◌∷◌, length, decimal, Option, None, Some, Result, Ok, Err, refl, sym, ap, ◌∙◌, subst, arith}
use Rattle.std.proofs.Math.ListN.{get_or}
use Rattle.std.proofs.lemmas.Bool.{and_from, and_parts, both_ways, eqb-false, lt-ltb, ltb-true, ne_eqb, or_from, or_parts, cond-true}
use Rattle.std.proofs.lemmas.Fmt.{decimal_is_IsNumeral, decimal-digits_value, first_decimal}
use Rattle.std.proofs.lemmas.Option.{cond_some}
use Rattle.std.proofs.lemmas.Slice.Eq.{bytes_eq-Decides}
use Rattle.std.proofs.lemmas.Str.Parse.{IsNumeralModel, digit_from_value, numerals_by_value, parse_plain, tells_digits}
use Rattle.std.specs.Fmt.{digits}
use Rattle.std.specs.Result.{OkIff, result_ok}
use Rattle.std.specs.Str.Parse.{AllDigits, ParsesUnsigned, digits_value}
use Rattle.ctrl_serve.specs.CommandLine.{is_padded, is_text_of, number_below}

own : IsNumeralModel (AllDigits 10) (digits_value 10)
own = numerals_by_value _ tells_digits

-- A word of a number is its text, and the number is below the bound.
pub text_of_number : (bound : ℕ) (word : List ℕ) (number : ℕ) → number_below bound word ≡ Some number → (word ≡ decimal number) × (number < bound)
text_of_number bound word number e =
    let p = cond_some (is_text_of bound word (digits_value 10 word)) (digits_value 10 word) number e in
    let q = and_parts _ _ p.0 in
    let text : word ≡ decimal (digits_value 10 word) = (bytes_eq-Decides word (decimal (digits_value 10 word))).0 q.0 in
    (text ∙ ap decimal p.1, subst (λ (n : ℕ). n < bound) p.1 (ltb-true _ _ q.1))

-- And the text of each such number is its word.
pub number_of_text : (bound number : ℕ) → bound ≤ 2 ^ 64 → number < bound → number_below bound (decimal number) ≡ Some number
number_of_text bound number most few =
    let value : digits_value 10 (decimal number) ≡ number = (decimal_is_IsNumeral number (omega (arith, most, few))).1 in
    let same = (bytes_eq-Decides (decimal number) (decimal (digits_value 10 (decimal number)))).1 (ap decimal (sym value)) in
    let low = lt-ltb (digits_value 10 (decimal number)) bound (rw value few) in
    cond-true _ _ _ (and_from _ _ same low) ∙ ap Some value

-- ---- how such a text begins

plain : (word : List ℕ) → AllDigits 10 word → (48 < get_or word 0 0) ⊎ (length word ≡ 1) → is_padded word ≡ false
plain [] digits first = refl
plain (c ∷ []) digits first = let range = digit_from_value c digits.0 in ne_eqb c 43 (λ e. omega (arith, e, range.0))
plain (c ∷ d ∷ cs) digits (inl high) = or_from _ _ (ne_eqb c 43 (λ e. omega (arith, e, high))) (ne_eqb c 48 (λ e. omega (arith, e, high)))
plain (c ∷ d ∷ cs) digits (inr one) = absurd (omega (arith, one))

first_or_one : (number : ℕ) → number < 2 ^ 64 → (48 < get_or (decimal number) 0 0) ⊎ (length (decimal number) ≡ 1)
unfolding digits
first_or_one zero few = inr refl
first_or_one (suc n) few = inl (first_decimal (suc n) (omega arith) few)

text_is_plain : (number : ℕ) → number < 2 ^ 64 → is_padded (decimal number) ≡ false
text_is_plain number few = plain (decimal number) (decimal_is_IsNumeral number few).0.1 (first_or_one number few)

-- What begins otherwise is the word of no number.
pub padded_has_none : (bound : ℕ) (word : List ℕ) → bound ≤ 2 ^ 64 → is_padded word ≡ true → None ≡ number_below bound word
padded_has_none bound word most padded = sym (by (number_below bound word) refl) where
  by : (found : Option ℕ) → number_below bound word ≡ found → number_below bound word ≡ None
  by None e = e
  by (Some number) e =
      let p = text_of_number bound word number e in
      let few = p.1 in
      absurd (both_ways (is_padded word) (ap is_padded p.0 ∙ text_is_plain number (omega (arith, most, few))) padded)

not_plus : (word : List ℕ) → is_padded word ≡ false → get_or word 0 0 ≡ 43 → ⊥
not_plus [] e is = omega (arith, is)
not_plus (c ∷ []) e is = eqb-false c 43 e is
not_plus (c ∷ d ∷ cs) e is = eqb-false c 43 (or_parts _ _ e).0 is

one_zero : (word : List ℕ) → 0 < length word → is_padded word ≡ false → get_or word 0 0 ≡ 48 → length word ≡ 1
one_zero [] some e is = absurd (omega (arith, some))
one_zero (c ∷ []) some e is = refl
one_zero (c ∷ d ∷ cs) some e is = absurd (eqb-false c 48 (or_parts _ _ e).1 is)

-- What is read of a text that begins so is its number.
pub parsed_number : {E : Type 0} (word : List ℕ) (r : Result ℕ E) → is_padded word ≡ false → ParsesUnsigned 64 10 word r → result_ok r ≡ number_below (2 ^ 64) word
parsed_number {E} word r e parses = by r (parse_plain own 64 word r parses (not_plus word e)) where
  by : (r : Result ℕ E) → OkIff r (AllDigits 10 word × (0 < length word) × (digits_value 10 word < 2 ^ 64)) (digits_value 10 word) → result_ok r ≡ number_below (2 ^ 64) word
  by (Ok x) h =
      let text : decimal (digits_value 10 word) ≡ word = decimal-digits_value own word h.0.0 h.0.1 (one_zero word h.0.1 e) (omega (arith, h.0.2)) in
      ap Some h.1 ∙ sym (number_of_text (2 ^ 64) (digits_value 10 word) (omega arith) h.0.2) ∙ ap (number_below (2 ^ 64)) text
  by (Err f) h = none (number_below (2 ^ 64) word) refl where
    none : (found : Option ℕ) → number_below (2 ^ 64) word ≡ found → None ≡ found
    none None is = refl
    none (Some number) is =
        let p = text_of_number (2 ^ 64) word number is in
        let n = decimal_is_IsNumeral number (omega (arith, p.1)) in
        absurd (h (rw p.0 (n.0.1, n.0.0, rw n.1 p.1)))

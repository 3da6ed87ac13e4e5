-- Texts that are the decimal texts of numbers up to a greatest.
use Rattle.std.proofs.Common.{◌≡◌, ℕ, zero, suc, ◌<◌, ◌≤◌, ◌^◌, ◌&&◌, ◌⊎◌, inl, inr, true, false, nat_le, List, [], ◌∷◌, length, get_or, bytes_eq, decimal, Option, None, Some, Result, Ok, Err, refl, sym, ap, ◌∙◌, subst, arith}
use Rattle.std.proofs.lemmas.Bool.{and_from, and_parts, both_ways, eqb-false, le-leb, leb-true, ne_eqb, or_from, or_parts, cond-true}
use Rattle.std.proofs.lemmas.Fmt.{decimal_is_IsNumeral, decimal-digits_value, first_decimal}
use Rattle.std.proofs.lemmas.Option.{cond_some}
use Rattle.std.proofs.lemmas.Slice.Eq.{bytes_eq-Decides}
use Rattle.std.proofs.lemmas.Str.{IsUtf8-from_ascii}
use Rattle.std.proofs.lemmas.Fmt.{IsAscii-decimal}
use Rattle.std.proofs.lemmas.Str.Parse.{IsNumeralModel, digit_from_value, numerals_by_value, parse_plain, tells_digits}
use Rattle.std.specs.Fmt.{digits}
use Rattle.std.specs.Result.{OkIff, result_ok}
use Rattle.std.specs.Str.{IsUtf8}
use Rattle.std.specs.Str.Parse.{AllDigits, ParsesUnsigned, digits_value}
use Rattle.ctrl_model.specs.AddressForm.{is_padded, number_to}

own : IsNumeralModel (AllDigits 10) (digits_value 10)
own = numerals_by_value _ tells_digits

-- bytes that say a number are its text, and it is not above the greatest
pub text_of_number : (most : ℕ) (word : List ℕ) (n : ℕ) → number_to most word ≡ Some n → (word ≡ decimal n) × (n ≤ most)
text_of_number most word n e =
    let p = cond_some (bytes_eq word (decimal (digits_value 10 word)) && nat_le (digits_value 10 word) most) (digits_value 10 word) n e in
    let q = and_parts _ _ p.0 in
    let text : word ≡ decimal (digits_value 10 word) = (bytes_eq-Decides word (decimal (digits_value 10 word))).0 q.0 in
    (text ∙ ap decimal p.1, subst (λ (m : ℕ). m ≤ most) p.1 (leb-true _ _ q.1))

-- and the text of each such number says it
pub number_of_text : (most n : ℕ) → n ≤ most → most < 2 ^ 64 → number_to most (decimal n) ≡ Some n
number_of_text most n few small =
    let value : digits_value 10 (decimal n) ≡ n = (decimal_is_IsNumeral n (omega (arith, few, small))).1 in
    let same = (bytes_eq-Decides (decimal n) (decimal (digits_value 10 (decimal n)))).1 (ap decimal (sym value)) in
    let low = le-leb (digits_value 10 (decimal n)) most (rw value few) in
    cond-true _ _ _ (and_from _ _ same low) ∙ ap Some value

-- ---- how such a text begins

plain : (word : List ℕ) → AllDigits 10 word → (48 < get_or word 0 0) ⊎ (length word ≡ 1) → is_padded word ≡ false
plain [] digits first = refl
plain (c ∷ []) digits first = let range = digit_from_value c digits.0 in ne_eqb c 43 (λ e. omega (arith, e, range.0))
plain (c ∷ d ∷ cs) digits (inl high) = or_from _ _ (ne_eqb c 43 (λ e. omega (arith, e, high))) (ne_eqb c 48 (λ e. omega (arith, e, high)))
plain (c ∷ d ∷ cs) digits (inr one) = absurd (omega (arith, one))

first_or_one : (n : ℕ) → n < 2 ^ 64 → (48 < get_or (decimal n) 0 0) ⊎ (length (decimal n) ≡ 1)
unfolding digits
first_or_one zero few = inr refl
first_or_one (suc n) few = inl (first_decimal (suc n) (omega arith) few)

text_is_plain : (n : ℕ) → n < 2 ^ 64 → is_padded (decimal n) ≡ false
text_is_plain n few = plain (decimal n) (decimal_is_IsNumeral n few).0.1 (first_or_one n few)

-- what no number says
none_said : (most : ℕ) (word : List ℕ) → ((n : ℕ) → word ≡ decimal n → n ≤ most → ⊥) → None ≡ number_to most word
none_said most word never = by (number_to most word) refl where
  by : (found : Option ℕ) → number_to most word ≡ found → None ≡ number_to most word
  by None e = sym e
  by (Some n) e = let p = text_of_number most word n e in absurd (never n p.0 p.1)

-- what begins otherwise says none
pub padded_has_none : (most : ℕ) (word : List ℕ) → most < 2 ^ 64 → is_padded word ≡ true → None ≡ number_to most word
padded_has_none most word small padded =
    none_said most word (λ n text few. both_ways (is_padded word) (ap is_padded text ∙ text_is_plain n (omega (arith, few, small))) padded)

-- and what is no text of characters
pub no_text_has_none : (most : ℕ) (word : List ℕ) → most < 2 ^ 64 → (IsUtf8 word → ⊥) → None ≡ number_to most word
no_text_has_none most word small never =
    none_said most word (λ n text few. never (subst (λ (w : List ℕ). IsUtf8 w) (sym text) (IsUtf8-from_ascii (decimal n) (IsAscii-decimal n (omega (arith, few, small))))))

not_plus : (word : List ℕ) → is_padded word ≡ false → get_or word 0 0 ≡ 43 → ⊥
not_plus [] e is = omega (arith, is)
not_plus (c ∷ []) e is = eqb-false c 43 e is
not_plus (c ∷ d ∷ cs) e is = eqb-false c 43 (or_parts _ _ e).0 is

one_zero : (word : List ℕ) → 0 < length word → is_padded word ≡ false → get_or word 0 0 ≡ 48 → length word ≡ 1
one_zero [] some e is = absurd (omega (arith, some))
one_zero (c ∷ []) some e is = refl
one_zero (c ∷ d ∷ cs) some e is = absurd (eqb-false c 48 (or_parts _ _ e).1 is)

-- what is read of a text that begins so, as a number of eight bits
pub parsed_number : {E : Type 0} (word : List ℕ) (r : Result ℕ E) → is_padded word ≡ false → ParsesUnsigned 8 10 word r → result_ok r ≡ number_to 255 word
parsed_number {E} word r e parses = by r (parse_plain own 8 word r parses (not_plus word e)) where
  by : (r : Result ℕ E) → OkIff r (AllDigits 10 word × (0 < length word) × (digits_value 10 word < 2 ^ 8)) (digits_value 10 word) → result_ok r ≡ number_to 255 word
  by (Ok x) h =
      let text : decimal (digits_value 10 word) ≡ word = decimal-digits_value own word h.0.0 h.0.1 (one_zero word h.0.1 e) (omega (arith, h.0.2)) in
      ap Some h.1 ∙ sym (number_of_text 255 (digits_value 10 word) (omega (arith, h.0.2)) (omega arith)) ∙ ap (number_to 255) text
  by (Err f) h =
      none_said 255 word (λ n text few.
      let k = decimal_is_IsNumeral n (omega (arith, few)) in
      h (rw text (k.0.1, k.0.0, rw k.1 (omega (arith, few)))))

-- A letter and a number are a name.
use Rattle.std.proofs.Common.{◌≡◌, ℕ, ◌≤◌, ◌<◌, ◌^◌, true, ◌&&◌, nat_le, List, [], ◌∷◌, ◌++◌, length, decimal, refl, ◌∙◌, arith, le-leb, leb-true, length-append, lit<}
use Rattle.std.specs.Char.{digit_value}
use Rattle.std.specs.List.{list_all}
use Rattle.std.specs.Str.Parse.{AllDigits}
use Rattle.std.proofs.lemmas.Bool.{and_from, and_parts}
use Rattle.std.proofs.lemmas.Bool.Decides.{nat_tests}
use Rattle.std.proofs.lemmas.Fmt.{decimal_is_IsNumeral, length-decimal-le}
use Rattle.std.proofs.lemmas.List.Folds.{list_all-append}
use Rattle.ctrl_model.specs.NameForm.{is_name, is_name_byte}

digit_fits : (b : ℕ) → digit_value b < 10 → is_name_byte b ≡ true
digit_fits b h = grind (arith, nat_tests)

digits_fit : (ds : List ℕ) → AllDigits 10 ds → list_all is_name_byte ds ≡ true
digits_fit [] each = refl
digits_fit (d ∷ ds) each = and_from (is_name_byte d) (list_all is_name_byte ds) (digit_fits d each.0) (digits_fit ds each.1)

pub is_name-numbered : (letter : List ℕ) (n : ℕ) → n < 2 ^ 32 → (is_name letter && nat_le (length letter) 10) ≡ true → is_name (letter ++ decimal n) ≡ true
is_name-numbered letter n small form =
    let p = and_parts (is_name letter) (nat_le (length letter) 10) form in
    let q = and_parts (nat_le 1 (length letter) && nat_le (length letter) 64) (list_all is_name_byte letter) p.0 in
    let r = and_parts (nat_le 1 (length letter)) (nat_le (length letter) 64) q.0 in
    let least : 1 ≤ length letter = leb-true 1 (length letter) r.0 in
    let most : length letter ≤ 10 = leb-true (length letter) 10 p.1 in
    let digits : length (decimal n) ≤ 10 = length-decimal-le 10 n (lit< tt) (omega (arith, small)) (omega (arith, small)) in
    let low : 1 ≤ length (letter ++ decimal n) = omega (arith, least, length-append letter (decimal n)) in
    let high : length (letter ++ decimal n) ≤ 64 = omega (arith, most, digits, length-append letter (decimal n)) in
    let numeral = (decimal_is_IsNumeral n (omega (arith, small))).0 in
    and_from (nat_le 1 (length (letter ++ decimal n)) && nat_le (length (letter ++ decimal n)) 64) (list_all is_name_byte (letter ++ decimal n))
    (and_from (nat_le 1 (length (letter ++ decimal n))) (nat_le (length (letter ++ decimal n)) 64) (le-leb 1 (length (letter ++ decimal n)) low) (le-leb (length (letter ++ decimal n)) 64 high))
    (list_all-append is_name_byte letter (decimal n) ∙ and_from (list_all is_name_byte letter) (list_all is_name_byte (decimal n)) q.1 (digits_fit (decimal n) numeral.1))

-- Names and numbers of content types: each name has one number, and none is written in digits.
use Rattle.std.proofs.Common.{◌≡◌, ℕ, ◌<◌, ◌^◌, ◌&&◌, Bool, true, false, not, cond, eqb, ltb, List, [], ◌∷◌, get_or, None, Some, refl, sym, ap, ◌∙◌}
use Rattle.std.specs.declared.option.Option.{Option}
use Rattle.std.specs.List.{list_all}
use Rattle.std.specs.Char.{is_ascii_digit}
use Rattle.std.specs.Str.{bytes_eq}
use Rattle.std.proofs.lemmas.Bool.{eqb-true, ltb-true}
use Rattle.ctrl_model.proofs.DistinctLaws.{same_name}
use Rattle.frame_lines.specs.TypeNames.{type_names, number_among, name_among, number_named, name_numbered}
use Rattle.frame_lines.specs.LineCuts.{Lacks}

pub and_left : (a b : Bool) → (a && b) ≡ true → a ≡ true
and_left true b is = refl
and_left false b is = cc

pub and_right : (a b : Bool) → (a && b) ≡ true → b ≡ true
and_right true b is = is
and_right false b is = cc

pub not_true : (a : Bool) → not a ≡ true → a ≡ false
not_true true is = cc
not_true false is = refl

-- ---- what holds of every row holds of the one that is found

by_number : (P : ℕ × List ℕ → Bool) (number content : ℕ) (known name : List ℕ) (t : Bool) (rest : Option (List ℕ)) → P (number, known) ≡ true
    → eqb number content ≡ t → (rest ≡ Some name → P (content, name) ≡ true) → cond {A = Option (List ℕ)} t (Some known) rest ≡ Some name → P (content, name) ≡ true
by_number P number content known name true rest here test later is =
    let same : known ≡ name = cc in
    ap (λ (x : List ℕ). P (content, x)) (sym same) ∙ ap (λ (n : ℕ). P (n, known)) (sym (eqb-true number content test)) ∙ here
by_number P number content known name false rest here test later is = later is

pub found_by_number : (P : ℕ × List ℕ → Bool) (rows : List (ℕ × List ℕ)) (content : ℕ) (name : List ℕ) → list_all P rows ≡ true
    → name_among rows content ≡ Some name → P (content, name) ≡ true
found_by_number P [] content name all is = cc
found_by_number P (row ∷ rows) content name all is =
    by_number P row.0 content row.1 name (eqb row.0 content) (name_among rows content) (and_left (P row) (list_all P rows) all) refl
    (found_by_number P rows content name (and_right (P row) (list_all P rows) all)) is

by_name : (P : ℕ × List ℕ → Bool) (number content : ℕ) (known name : List ℕ) (t : Bool) (rest : Option ℕ) → P (number, known) ≡ true
    → bytes_eq known name ≡ t → (rest ≡ Some content → P (content, name) ≡ true) → cond {A = Option ℕ} t (Some number) rest ≡ Some content → P (content, name) ≡ true
by_name P number content known name true rest here test later is =
    let same : number ≡ content = cc in
    ap (λ (n : ℕ). P (n, name)) (sym same) ∙ ap (λ (x : List ℕ). P (number, x)) (sym (same_name known name test)) ∙ here
by_name P number content known name false rest here test later is = later is

pub found_by_name : (P : ℕ × List ℕ → Bool) (rows : List (ℕ × List ℕ)) (content : ℕ) (name : List ℕ) → list_all P rows ≡ true
    → number_among rows name ≡ Some content → P (content, name) ≡ true
found_by_name P [] content name all is = cc
found_by_name P (row ∷ rows) content name all is =
    by_name P row.0 content row.1 name (bytes_eq row.1 name) (number_among rows name) (and_left (P row) (list_all P rows) all) refl
    (found_by_name P rows content name (and_right (P row) (list_all P rows) all)) is

-- ---- what holds of the rows that there are

abbrev is_number : Option ℕ → ℕ → Bool
is_number None n = false
is_number (Some m) n = eqb m n

is_number_some : (o : Option ℕ) (n : ℕ) → is_number o n ≡ true → o ≡ Some n
is_number_some None n is = cc
is_number_some (Some m) n is = ap Some (eqb-true m n is)

-- the number of a name is found again by the name of the number
pub number_of_name : (content : ℕ) (name : List ℕ) → name_numbered content ≡ Some name → number_named name ≡ Some content
number_of_name content name is =
    is_number_some (number_named name) content (found_by_number (λ row. is_number (number_named row.1) row.0) type_names content name refl is)

-- a named content type fits four bytes
pub named_fits : (content : ℕ) (name : List ℕ) → number_named name ≡ Some content → content < 2 ^ 32
named_fits content name is = ltb-true content (2 ^ 32) (found_by_name (λ row. ltb row.0 4294967296) type_names content name refl is)

-- a name has neither a space nor a newline, ends in no carriage return and begins with no digit
abbrev is_plain_name : ℕ × List ℕ → Bool
is_plain_name row = list_all (λ b. not (eqb b 32) && (not (eqb b 10) && not (eqb b 13))) row.1 && not (is_ascii_digit (get_or row.1 0 0))

abbrev is_plain_byte : ℕ → Bool
is_plain_byte b = not (eqb b 32) && (not (eqb b 10) && not (eqb b 13))

pub record IsPlainWord (word : List ℕ) : Type 0 where
  pub spaces : Lacks 32 word
  pub newlines : Lacks 10 word
  pub returns : Lacks 13 word

pub plain_word : (word : List ℕ) → list_all is_plain_byte word ≡ true → IsPlainWord word
plain_word [] is = record { spaces = tt; newlines = tt; returns = tt }
plain_word (b ∷ word) is =
    let here = and_left (is_plain_byte b) (list_all is_plain_byte word) is in
    let later = plain_word word (and_right (is_plain_byte b) (list_all is_plain_byte word) is) in
    let both = and_right (not (eqb b 32)) (not (eqb b 10) && not (eqb b 13)) here in
    record {
      spaces = (not_true (eqb b 32) (and_left (not (eqb b 32)) (not (eqb b 10) && not (eqb b 13)) here), later.spaces);
      newlines = (not_true (eqb b 10) (and_left (not (eqb b 10)) (not (eqb b 13)) both), later.newlines);
      returns = (not_true (eqb b 13) (and_right (not (eqb b 10)) (not (eqb b 13)) both), later.returns);
    }

pub name_is_plain : (content : ℕ) (name : List ℕ) → name_numbered content ≡ Some name → IsPlainWord name
name_is_plain content name is =
    plain_word name (and_left (list_all is_plain_byte name) (not (is_ascii_digit (get_or name 0 0))) (found_by_number is_plain_name type_names content name refl is))

none_at : (word : List ℕ) (o : Option ℕ) → number_named word ≡ o → is_ascii_digit (get_or word 0 0) ≡ true → o ≡ None
none_at word None is digit = refl
none_at word (Some content) is digit =
    let other : is_ascii_digit (get_or word 0 0) ≡ false = not_true _ (found_by_name (λ row. not (is_ascii_digit (get_or row.1 0 0))) type_names content word refl is) in
    cc

-- what begins with a digit is no name
pub digits_name_none : (word : List ℕ) → is_ascii_digit (get_or word 0 0) ≡ true → number_named word ≡ None
digits_name_none word digit = none_at word (number_named word) refl digit

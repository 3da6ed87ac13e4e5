-- The words of a line, and the numbers that words write (docs/FORMATS.md, "Lines for people").
use Rattle.std.specs.Prelude.{ℕ, ◌^◌, Bool, not, ◌&&◌, ◌||◌, ◌==◌, nat_lt, if◌then◌else◌, List, [], ◌∷◌, length, slice_index, None, Some}
use Rattle.std.specs.declared.option.Option.{Option}
use Rattle.std.specs.Char.{is_ascii_digit}
use Rattle.std.specs.List.{list_all}
use Rattle.std.specs.Str.Parse.{digits_value}

-- The first word of a line: its bytes before the first space.
abbrev pub first_word : List ℕ → List ℕ
first_word [] = []
first_word (b ∷ line) = if b == 32 then [] else b ∷ first_word line

-- What stands behind the first word and one space; nothing where no space is.
abbrev pub behind_word : List ℕ → List ℕ
behind_word [] = []
behind_word (b ∷ line) = if b == 32 then line else behind_word line

-- A word of decimal digits.
abbrev pub are_digits : List ℕ → Bool
are_digits word = not (length word == 0) && list_all is_ascii_digit word

-- Digits with no zero before the number: a lone digit, or a first one that is not zero.
abbrev pub is_plain : List ℕ → Bool
is_plain word = (length word == 1) || not (slice_index word 0 == 48)

-- The number below 2^32 that a word writes in decimal, with no zeros before it, if it writes one.
abbrev pub number_in : List ℕ → Option ℕ
number_in word =
    if are_digits word && (is_plain word && nat_lt (digits_value 10 word) (2 ^ 32)) then Some (digits_value 10 word) else None

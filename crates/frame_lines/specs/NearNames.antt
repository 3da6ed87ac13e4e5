-- The known name that a word is near to (docs/FORMATS.md, "Checking a text").
use Rattle.std.specs.Prelude.{ℕ, Bool, ◌||◌, ◌==◌, nat_lt, if◌then◌else◌, List, [], ◌∷◌, length, None, Some}
use Rattle.std.specs.declared.option.Option.{Option}
use Rattle.std.specs.Str.{bytes_eq}
use Rattle.frame_lines.specs.TypeNames.{type_names}

-- Whether a word is the name but for one byte at most that is another, is left out, or stands there besides.
abbrev pub is_near : List ℕ → List ℕ → Bool
is_near [] word = nat_lt (length word) 2
is_near (b ∷ name) [] = length name == 0
is_near (b ∷ name) (c ∷ word) =
    if b == c then is_near name word else (bytes_eq name word || (bytes_eq name (c ∷ word) || bytes_eq (b ∷ name) word))

-- The first name in some rows that a word is near to.
abbrev pub near_among : List (ℕ × List ℕ) → List ℕ → Option (List ℕ)
near_among [] word = None
near_among (row ∷ rows) word = if is_near row.1 word then Some row.1 else near_among rows word

-- The first name of a content type that a word is near to, if it is near to one.
unfoldable pub near_name : List ℕ → Option (List ℕ)
near_name word = near_among type_names word

-- Requests and replies in one text (docs/FORMATS.md, "Answers").
use Rattle.std.specs.Prelude.{ℕ, ◌+◌, Bool, if◌then◌else◌, List, [], ◌∷◌, length, codes}
use Rattle.std.specs.Str.{bytes_eq}

-- The line that stands between the requests and the replies.
abbrev pub is_mark : List ℕ → Bool
is_mark line = bytes_eq line (codes "---")

-- The lines before the first such line: all of them where there is none.
abbrev pub before_mark : List (List ℕ) → List (List ℕ)
before_mark [] = []
before_mark (line ∷ lines) = if is_mark line then [] else line ∷ before_mark lines

-- The lines behind it: none where it is not there.
abbrev pub behind_mark : List (List ℕ) → List (List ℕ)
behind_mark [] = []
behind_mark (line ∷ lines) = if is_mark line then lines else behind_mark lines

-- The number of the first line behind it, where the lines are counted from 1.
abbrev pub number_behind : List (List ℕ) → ℕ
number_behind lines = length (before_mark lines) + 2

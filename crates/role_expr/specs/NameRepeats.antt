-- Lists of names without repeats (docs/FORMATS.md, "Commands").
use Rattle.std.specs.Prelude.{ℕ, not, List, [], ◌∷◌, filter}
use Rattle.std.specs.Str.{bytes_eq}

-- A list without repeats: of equal names the first stays.
abbrev pub without_repeats : List (List ℕ) → List (List ℕ)
without_repeats [] = []
without_repeats (n ∷ ns) = n ∷ filter (λ m. not (bytes_eq m n)) (without_repeats ns)

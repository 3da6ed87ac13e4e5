-- Whether bytes that are an address are one place, told by their marks. Private contracts alone cite it.
use Rattle.std.specs.Prelude.{ℕ, ◌+◌, ◌==◌, Bool, true, not, List, [], ◌∷◌, codes, drop}
use Rattle.std.specs.List.{position}
use Rattle.std.specs.Option.{option_map_or}
use Rattle.std.specs.Str.{bytes_eq}

-- Whether bytes do not begin with `*`.
abbrev pub has_no_star : List ℕ → Bool
has_no_star [] = true
has_no_star (b ∷ bs) = not (b == 42)

-- Behind `/` all bits are said; where no `/` stands, the bytes do not begin with `*`.
abbrev pub is_unmarked : List ℕ → Bool
is_unmarked bytes = option_map_or (λ place. bytes_eq (drop (place + 1) bytes) (codes "32")) (position (λ b. b == 47) bytes) (has_no_star bytes)

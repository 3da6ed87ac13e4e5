-- Rows of the first format, as the second one has them (docs/FORMATS.md, "Rows").
use Rattle.std.specs.Prelude.{ℕ, Bool, false, ◌&&◌, nat_le, cond, List, [], ◌∷◌, take}

-- Whether the bytes of a key are those of a count.
abbrev pub is_count_key : List ℕ → Bool
is_count_key [] = false
is_count_key (table ∷ rest) = nat_le 12 table && nat_le table 15

-- A row of the first format, narrowed: of a count the first two bytes stay.
abbrev pub narrowed : List ℕ × List ℕ → List ℕ × List ℕ
narrowed x = (x.0, cond (is_count_key x.0) (take 2 x.1) x.1)

-- Counts and steps of the worked examples.
use Rattle.std.specs.Prelude.{ℕ, true, false, List, [], ◌∷◌}
use Rattle.grant_denorm.specs.declared.deltas.Delta.{Delta}

-- One policy grants the pair of 1 and 1.
abbrev pub one_grant : List ((ℕ × ℕ) × ℕ)
one_grant = ((1, 1), 1) ∷ []

-- A step of the count of a pair, up.
abbrev pub up : ℕ → ℕ → Delta
up a b = record { a = a; b = b; up = true }

-- A step of the count of a pair, down.
abbrev pub down : ℕ → ℕ → Delta
down a b = record { a = a; b = b; up = false }

-- Another policy joins the identities 1 and 2 to the service 1.
abbrev pub two_more : List Delta
two_more = up 2 1 ∷ up 1 1 ∷ []

-- A policy of the pair of 1 and 1 goes, and another of it comes.
abbrev pub there_and_back : List Delta
there_and_back = down 1 1 ∷ up 1 1 ∷ []

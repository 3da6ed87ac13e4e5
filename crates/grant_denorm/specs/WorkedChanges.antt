-- Counts, policies and turns of the worked examples.
use Rattle.std.specs.Prelude.{ℕ, true, false, List, [], ◌∷◌}
use Rattle.grant_denorm.specs.declared.deltas.Cross.{Cross}
use Rattle.grant_denorm.specs.declared.deltas.Turn.{Turn}

-- The pair of 1 and 5 has the count 2, and that of 2 and 7 the count 1.
abbrev pub two_pairs : List ((ℕ × ℕ) × ℕ)
two_pairs = ((1, 5), 2) ∷ ((2, 7), 1) ∷ []

-- A policy whose members are these.
abbrev pub cross : List ℕ → List ℕ → Cross
cross left right = record { left = left; right = right }

-- A policy before a change of its left members.
abbrev pub one_and_two : Cross
one_and_two = cross (1 ∷ 2 ∷ []) (5 ∷ [])

-- The same policy after it.
abbrev pub two_and_three : Cross
two_and_three = cross (2 ∷ 3 ∷ []) (5 ∷ [])

-- One policy grants an entity 5 and 6 from now on, another 5, and a third 7 no more.
abbrev pub three_turns : List Turn
three_turns =
    record { up = true; partners = 5 ∷ 6 ∷ [] } ∷ record { up = true; partners = 5 ∷ [] } ∷ record { up = false; partners = 7 ∷ [] } ∷ []

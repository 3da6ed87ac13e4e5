-- Small graphs for the worked examples. Each step costs 21: a link of cost 11 and the router of cost 10 behind it.
use Rattle.std.specs.Prelude.{ℕ, true, false, List, [], ◌∷◌}
use Rattle.path_certificate.specs.declared.graph.Step.{Step}
use Rattle.path_certificate.specs.Graphs.{GraphSeen}

-- A step of cost 21.
abbrev pub step : ℕ → ℕ → ℕ → Step
step from link to = record { from = from; to = to; link = link; cost = 21 }

-- Places 0, 1 and 2 in a row: link 1 joins 0 and 1, link 2 joins 1 and 2.
abbrev pub row_steps : List Step
row_steps = step 0 1 1 ∷ step 1 1 0 ∷ step 1 2 2 ∷ step 2 2 1 ∷ []

-- The row, of which each place may be passed through.
abbrev pub row : GraphSeen
row = record { through = true ∷ true ∷ true ∷ []; steps = row_steps }

-- The row, of which the middle may not be passed through.
abbrev pub blocked_row : GraphSeen
blocked_row = record { through = true ∷ false ∷ true ∷ []; steps = row_steps }

-- The row, and link 3 between its ends.
abbrev pub triangle : GraphSeen
triangle = record {
  through = true ∷ true ∷ true ∷ [];
  steps = step 0 1 1 ∷ step 0 3 2 ∷ step 1 1 0 ∷ step 1 2 2 ∷ step 2 2 1 ∷ step 2 3 0 ∷ [];
}

-- Two ways from place 0 to place 3: over 1 by the links 1 and 4, and over 2 by the links 2 and 3.
abbrev pub square : GraphSeen
square = record {
  through = true ∷ true ∷ true ∷ true ∷ [];
  steps = step 0 1 1 ∷ step 0 2 2 ∷ step 1 1 0 ∷ step 1 4 3 ∷ step 2 2 0 ∷ step 2 3 3 ∷ step 3 3 2 ∷ step 3 4 1 ∷ [];
}

-- One place, and no step.
abbrev pub single : GraphSeen
single = record { through = true ∷ []; steps = [] }

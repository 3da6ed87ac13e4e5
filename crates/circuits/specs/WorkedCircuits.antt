-- Circuits for worked examples.
use Rattle.std.specs.Prelude.{ℕ, ◌==◌, cond, List, [], ◌∷◌, None, Some}
use Rattle.std.specs.declared.option.Option.{Option}
use Rattle.ctrl_model.specs.State.{Circuit}
use Rattle.circuits.specs.declared.moves.Move.{Move}
use Rattle.circuits.specs.CircuitTables.{CircuitTables, no_circuits, with_circuit}

-- A circuit of identity 3 and service 2 to terminator 1, from router 1 over these links.
abbrev pub over : List ℕ → Circuit
over links = record { identity = 3; service = 2; terminator = 1; ingress = 1; links = links }

-- A store of two circuits.
abbrev pub two_circuits : CircuitTables
two_circuits = with_circuit (over []) (with_circuit (over (1 ∷ 2 ∷ [])) no_circuits)

-- The circuit of a number goes over these links from now on.
abbrev pub now_over : ℕ → List ℕ → Move
now_over n links = record { circuit = record { 0 = n }; links = links }

-- Number 2 is given link 4, number 3 a way without links, and no other number any.
abbrev pub two_ways : ℕ → Option (List ℕ)
two_ways n = cond (n == 2) (Some (4 ∷ [])) (cond (n == 3) (Some []) None)

-- Circuits that go over other links from now on: what moves make of a circuit, and of the table (docs/RULES.md, "Settling").
use Rattle.std.specs.Prelude.{ℕ, ◌==◌, not, List, map, filter, find, is_some}
use Rattle.std.specs.declared.option.Option.{Option}
use Rattle.std.specs.List.{filter_map}
use Rattle.std.specs.Option.{option_map, option_map_or}
use Rattle.ctrl_model.specs.Numbered.{Table, with_edit}
use Rattle.ctrl_model.specs.State.{Circuit}
use Rattle.circuits.specs.CircuitTables.{CircuitTables}
use Rattle.circuits.specs.declared.moves.Move.{Move}

-- A table, in which the circuit at a number goes over other links.
abbrev pub with_links : ℕ → List ℕ → Table Circuit → Table Circuit
with_links n links t = with_edit n (λ c. record c { links = links }) t

-- The numbers of the circuits that moves name.
abbrev pub moved_numbers : List Move → List ℕ
moved_numbers moves = map (λ m. m.circuit.0) moves

-- The links that moves have for a number: those of the first that names it.
abbrev pub moved_links : List Move → ℕ → Option (List ℕ)
moved_links moves n = option_map (λ m. m.links) (find (λ m. m.circuit.0 == n) moves)

-- A circuit under its number as moves have it: over the links that they have for the number, if one names it, and else as it is.
abbrev pub moved : List Move → ℕ × Circuit → Circuit
moved moves row = option_map_or (λ links. record row.1 { links = links }) (moved_links moves row.0) row.1

-- A table, of which each circuit is moved.
abbrev pub moved_table : List Move → Table Circuit → Table Circuit
moved_table moves t = record t { rows = map (λ row. (row.0, moved moves row)) t.rows }

-- The circuits, of which each is moved.
abbrev pub with_moves : List Move → CircuitTables → CircuitTables
with_moves moves k = record k { circuits = moved_table moves k.circuits }

-- The move of the circuit of a number to the links that it is given, if it is given some.
abbrev pub move_to : ℕ → Option (List ℕ) → Option Move
move_to n way = option_map (λ links. record { circuit = record { 0 = n }; links = links }) way

-- The moves of those of some numbers that are given links.
abbrev pub moves_by : (ℕ → Option (List ℕ)) → List ℕ → List Move
moves_by way ns = filter_map (λ n. move_to n (way n)) ns

-- Those of some numbers that are given no links.
abbrev pub ended_by : (ℕ → Option (List ℕ)) → List ℕ → List ℕ
ended_by way ns = filter (λ n. not (is_some (way n))) ns

-- What settling takes out of a state and what it moves, by its numbers (docs/RULES.md, "Settling").
use Rattle.std.specs.Prelude.{◌≡◌, []}
use Rattle.ctrl_model.specs.State.{State}
use Rattle.record_tables.specs.AfterChange.{without_numbers}
use Rattle.circuits.specs.MovedCircuits.{moved_table}
use Rattle.core_stores.specs.declared.settled.Settled.{Settled}

-- Nothing settles.
pub record SettlesNothing (g : Settled) : Type 0 where
  pub links_stay : g.links ≡ []
  pub terminators_stay : g.terminators ≡ []
  pub circuits_stay : g.going ≡ []
  pub none_ends : g.ended ≡ []
  pub none_moves : g.moves ≡ []

-- A state without the links, terminators and circuits of some numbers, with the others of its circuits moved.
abbrev pub without_settled : Settled → State → State
without_settled g s = record s {
  links = without_numbers g.links s.links;
  terminators = without_numbers g.terminators s.terminators;
  circuits = moved_table g.moves (without_numbers g.ended s.circuits);
}

-- What a store of circuits holds, as contracts see it: the table of circuits (docs/RULES.md, "Records and numbers", "Circuits").
use Rattle.std.specs.Prelude.{ℕ, ◌≤◌, Bool, not, length}
use Rattle.ctrl_model.specs.declared.kinds.Kind.TheVariants as kind
use Rattle.ctrl_model.specs.Limits.{limit, last_next}
use Rattle.ctrl_model.specs.Tables.{has_room}
use Rattle.ctrl_model.specs.Numbered.{Table, no_rows, with_new, with_removed, Between}
use Rattle.ctrl_model.specs.State.{Circuit}

-- The table of circuits.
pub record CircuitTables : Type 0 where
  pub circuits : Table Circuit

-- A store without circuits. The first gets the number 1.
abbrev pub no_circuits : CircuitTables
no_circuits = record { circuits = no_rows }

-- Whether no circuit can be added: as many are present as may be, or their numbers have run out.
abbrev pub is_full : CircuitTables → Bool
is_full t = not (has_room (limit kind.Circuit) t.circuits)

-- The table with one more circuit, under the next number.
abbrev pub with_circuit : Circuit → CircuitTables → CircuitTables
with_circuit c t = record { circuits = with_new c t.circuits }

-- The table without one circuit.
abbrev pub without_circuit : ℕ → CircuitTables → CircuitTables
without_circuit n t = record { circuits = with_removed n t.circuits }

-- The table with another next number.
abbrev pub with_next : ℕ → CircuitTables → CircuitTables
with_next next t = record { circuits = record t.circuits { next = next } }

-- What a store keeps: the numbers ascend from 1 below the next one, which has an end, and there are no more circuits than may be.
pub record KeepsCircuits (t : CircuitTables) : Type 0 where
  pub first : 1 ≤ t.circuits.next
  pub last : t.circuits.next ≤ last_next
  pub ordered : Between 1 t.circuits.next t.circuits.rows
  pub few : length t.circuits.rows ≤ limit kind.Circuit

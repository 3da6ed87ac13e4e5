-- Laws of circuits as they will be: what a change makes of their table, and where none are gone.
use Rattle.std.proofs.Common.{◌≡◌, ℕ, List, [], Option, None, Some, refl, sym, ◌∙◌, ap}
use Rattle.record_tables.specs.AfterChange.{changed_by}
use Rattle.record_tables.specs.Turns.{turned_table}
use Rattle.record_tables.proofs.GoneLaws.{gone_none}
use Rattle.circuits.specs.declared.changes.CircuitChange.{CircuitChange}
use Rattle.circuits.specs.declared.changes.CircuitChange.TheVariants as change
use Rattle.circuits.specs.ChangedCircuits.{turn_of}
use Rattle.circuits.specs.CircuitChanges.{after_circuit_change, circuits_after}
use Rattle.circuits.specs.CircuitTables.{CircuitTables}

pub circuits_turned : (o : Option CircuitChange) (k : CircuitTables) → turned_table (λ c. c) (turn_of o) k.circuits ≡ (changed_by after_circuit_change o k).circuits
circuits_turned None k = refl
circuits_turned (Some (change.Add circuit)) k = refl
circuits_turned (Some (change.Remove n)) k = refl

-- where none are gone, the circuits are as the change makes them
pub none_gone : (o : Option CircuitChange) (gone : List ℕ) (k : CircuitTables) → gone ≡ [] → circuits_after o gone k ≡ changed_by after_circuit_change o k
none_gone o gone k e =
    ap (λ ns. circuits_after o ns k) e
    ∙ ap (λ t. record (changed_by after_circuit_change o k) { circuits = t }) (sym (gone_none (changed_by after_circuit_change o k).circuits))

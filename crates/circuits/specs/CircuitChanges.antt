-- What a command on circuits changes, in the circuits themselves and in a state (docs/PROMISES.md, "Commands on circuits").
use Rattle.std.specs.Prelude.{◌≡◌, ℕ, true, false, List}
use Rattle.std.specs.declared.option.Option.{Option}
use Rattle.ctrl_model.specs.Numbered.{is_present}
use Rattle.ctrl_model.specs.State.{State}
use Rattle.circuits.specs.CircuitTables.{CircuitTables, is_full, with_circuit, without_circuit}
use Rattle.record_tables.specs.AfterChange.{changed_by, without_numbers}
use Rattle.circuits.specs.declared.changes.CircuitChange.{CircuitChange}
use Rattle.circuits.specs.declared.changes.CircuitChange.TheVariants as change

-- The circuits of a state.
abbrev pub circuits_of : State → CircuitTables
circuits_of s = record { circuits = s.circuits }

-- The circuits after a change.
abbrev pub after_circuit_change : CircuitChange → CircuitTables → CircuitTables
after_circuit_change (change.Add circuit) k = with_circuit circuit k
after_circuit_change (change.Remove n) k = without_circuit n.0 k

-- The circuits without those of some numbers.
abbrev pub without_circuits : List ℕ → CircuitTables → CircuitTables
without_circuits gone k = record k { circuits = without_numbers gone k.circuits }

-- The circuits after a change, if there is one, without those of some numbers.
abbrev pub circuits_after : Option CircuitChange → List ℕ → CircuitTables → CircuitTables
circuits_after change gone k = without_circuits gone (changed_by after_circuit_change change k)

-- What a change needs of the circuits: that they are not full where one is added, and that one that is removed is there.
abbrev pub CanChangeCircuits : CircuitChange → CircuitTables → Type 0
CanChangeCircuits (change.Add circuit) k = is_full k ≡ false
CanChangeCircuits (change.Remove n) k = is_present k.circuits.rows n.0 ≡ true

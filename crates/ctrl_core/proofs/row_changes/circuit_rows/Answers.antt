use Rattle.std.proofs.Common.{refl}
use Rattle.std.proofs.lemmas.Result.{IfOk-weaker}
use Rattle.ctrl_core.specs.ChangedStores.{next_state}
use Rattle.ctrl_core.specs.KeptFormat.{kept_format}
use Rattle.core_stores.specs.StoredState.{state_of}
use Rattle.ctrl_core.proofs.RowEnds.{circuits_climb, ended_going, moved_going, circuits_end, circuits_fit, circuits_fit_now}
use Rattle.ctrl_core.proofs.row_changes.circuit_rows.Goals as goal

pub circuit_changes-requires-clause-climb : goal.circuit_changes-requires-clause-climb
circuit_changes-requires-clause-climb c = circuits_climb c.args.change.now c.args.stores.now c.args.settled.now c.requires

pub circuit_changes-requires-clause-gone : goal.circuit_changes-requires-clause-gone
circuit_changes-requires-clause-gone c = ended_going c.args.change.now c.args.stores.now c.args.settled.now c.requires

pub circuit_changes-requires-clause-moved : goal.circuit_changes-requires-clause-moved
circuit_changes-requires-clause-moved c = moved_going c.args.change.now c.args.stores.now c.args.settled.now c.requires

pub circuit_changes-requires-clause-before : goal.circuit_changes-requires-clause-before
circuit_changes-requires-clause-before c = circuits_fit_now c.args.stores.now c.requires.can.before

pub circuit_changes-requires-clause-after : goal.circuit_changes-requires-clause-after
circuit_changes-requires-clause-after c = circuits_fit c.args.change.now c.args.stores.now c.args.settled.now _ c.requires c.of_circuits.ensures

pub returns : goal.returns
returns c =
    IfOk-weaker c.circuit_changes.result _ _ (λ changes covers.
    covers kept_format (state_of c.args.stores.now) (next_state c.args.stores.now c.args.change.now) refl
    (circuits_end c.args.change.now c.args.stores.now c.args.settled.now _ c.requires c.of_circuits.ensures)) c.circuit_changes.ensures

use Rattle.std.proofs.Common.{refl}
use Rattle.std.proofs.lemmas.Result.{IfOk-weaker}
use Rattle.ctrl_core.specs.ChangedStores.{next_state}
use Rattle.ctrl_core.specs.KeptFormat.{kept_format}
use Rattle.core_stores.specs.StoredState.{state_of}
use Rattle.ctrl_core.proofs.RowEnds.{terms_climb, terms_end, terms_fit, terms_fit_now}
use Rattle.ctrl_core.proofs.row_changes.term_rows.Goals as goal

pub term_changes-requires-clause-climb : goal.term_changes-requires-clause-climb
term_changes-requires-clause-climb c = terms_climb c.args.change.now c.args.stores.now c.args.settled.now c.requires

pub term_changes-requires-clause-before : goal.term_changes-requires-clause-before
term_changes-requires-clause-before c = terms_fit_now c.args.stores.now c.requires.can.before

pub term_changes-requires-clause-after : goal.term_changes-requires-clause-after
term_changes-requires-clause-after c = terms_fit c.args.change.now c.args.stores.now c.args.settled.now _ c.requires c.of_terminators.ensures

pub returns : goal.returns
returns c =
    IfOk-weaker c.term_changes.result _ _ (λ changes covers.
    covers kept_format (state_of c.args.stores.now) (next_state c.args.stores.now c.args.change.now) refl
    (terms_end c.args.change.now c.args.stores.now c.args.settled.now _ c.requires c.of_terminators.ensures)) c.term_changes.ensures

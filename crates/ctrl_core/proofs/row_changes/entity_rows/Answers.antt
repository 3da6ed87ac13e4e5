use Rattle.std.proofs.lemmas.Result.{IfOk-weaker}
use Rattle.ctrl_core.specs.ChangedStores.{next_state}
use Rattle.ctrl_core.specs.KeptFormat.{kept_format}
use Rattle.core_stores.specs.StoredState.{state_of}
use Rattle.ctrl_core.proofs.RowEnds.{entities_now, entities_end, entities_fit, entities_fit_now, entities_can}
use Rattle.ctrl_core.proofs.row_changes.entity_rows.Goals as goal

pub entity_changes-requires-clause-can : goal.entity_changes-requires-clause-can
entity_changes-requires-clause-can c = entities_can c.args.change.now c.args.stores.now c.requires c.of_entities.result c.of_entities.ensures

pub entity_changes-requires-clause-before : goal.entity_changes-requires-clause-before
entity_changes-requires-clause-before c = entities_fit_now c.args.stores.now c.requires.before

pub entity_changes-requires-clause-after : goal.entity_changes-requires-clause-after
entity_changes-requires-clause-after c = entities_fit c.args.change.now c.args.stores.now _ c.requires c.of_entities.ensures

pub returns : goal.returns
returns c =
    IfOk-weaker c.entity_changes.result _ _ (λ changes covers.
    covers kept_format (state_of c.args.stores.now) (next_state c.args.stores.now c.args.change.now) (entities_now c.args.stores.now)
    (entities_end c.args.change.now c.args.stores.now _ c.requires c.of_entities.ensures)) c.entity_changes.ensures

use Rattle.std.proofs.Common.{refl}
use Rattle.std.proofs.lemmas.Result.{IfOk-weaker}
use Rattle.ctrl_core.specs.ChangedStores.{next_state}
use Rattle.ctrl_core.specs.KeptFormat.{kept_format}
use Rattle.core_stores.specs.StoredState.{state_of}
use Rattle.ctrl_core.proofs.RowEnds.{links_climb, links_end, links_fit, links_fit_now}
use Rattle.ctrl_core.proofs.row_changes.link_rows.Goals as goal

pub link_changes-requires-clause-climb : goal.link_changes-requires-clause-climb
link_changes-requires-clause-climb c = links_climb c.args.change.now c.args.stores.now c.args.settled.now c.requires

pub link_changes-requires-clause-before : goal.link_changes-requires-clause-before
link_changes-requires-clause-before c = links_fit_now c.args.stores.now c.requires.can.before

pub link_changes-requires-clause-after : goal.link_changes-requires-clause-after
link_changes-requires-clause-after c = links_fit c.args.change.now c.args.stores.now c.args.settled.now _ c.requires c.of_links.ensures

pub returns : goal.returns
returns c =
    IfOk-weaker c.link_changes.result _ _ (λ changes covers.
    covers kept_format (state_of c.args.stores.now) (next_state c.args.stores.now c.args.change.now) refl
    (links_end c.args.change.now c.args.stores.now c.args.settled.now _ c.requires c.of_links.ensures)) c.link_changes.ensures

use Rattle.std.proofs.Common.{sym, ◌∙◌, subst}
use Rattle.std.proofs.lemmas.Result.{IfOk-weaker}
use Rattle.row_codec.specs.CoveredTables.{Covers}
use Rattle.ctrl_core.specs.ChangedStores.{next_state}
use Rattle.ctrl_core.specs.KeptFormat.{kept_format}
use Rattle.core_stores.specs.StoredState.{state_of}
use Rattle.ctrl_core.proofs.NextNumbers.{next_covered, next_rises, next_so}
use Rattle.ctrl_core.proofs.row_changes.next_rows.Goals as goal

pub next_changes-requires : goal.next_changes-requires
next_changes-requires c = λ k h e. next_rises k c.args.change.now c.args.stores.now c.requires h e

pub returns : goal.returns
returns c =
    let s = state_of c.args.stores.now in
    let t = next_state c.args.stores.now c.args.change.now in
    IfOk-weaker c.next_changes.result _ _ (λ v is. subst (λ cs. Covers kept_format 1 2 s t cs) (sym (is ∙ next_so c.args.change.now c.args.stores.now c.requires)) (next_covered kept_format s t)) c.next_changes.ensures

use Rattle.std.proofs.Common.{[], ◌∷◌, ◌++◌, sym, ◌∙◌, ap, subst, arith}
use Rattle.row_codec.specs.CoveredTables.{Covers}
use Rattle.row_laws.specs.ChangedKeys.{setting_change}
use Rattle.row_laws.proofs.Covers.{Covers-append}
use Rattle.row_laws.proofs.TouchedKeys.{Covers-setting}
use Rattle.ctrl_core.specs.ChangedStores.{next_state}
use Rattle.ctrl_core.specs.KeptFormat.{kept_format}
use Rattle.core_stores.specs.StoredState.{state_of}
use Rattle.row_writing.specs.RecordChanges.{setting_change_of}
use Rattle.ctrl_core.proofs.RowEnds.{least_end, least_then}
use Rattle.ctrl_core.proofs.row_changes.push_setting.Goals as goal

pub returns : goal.returns
returns c =
    let s = state_of c.args.stores.now in
    let t = next_state c.args.stores.now c.args.change.now in
    let st = c.args.stores.now in
    subst (λ cs. Covers kept_format 1 3 s t cs)
    (sym (c.in_ok-push.ensures.items ∙ ap (λ x. c.args.changes.now.items ++ x ∷ [])
    (c.in_ok-least_change.ensures ∙ ap (setting_change_of st.fabric.least) (sym (least_end c.args.change.now st c.requires.can ∙ least_then c.args.change.now st)))))
    (Covers-append kept_format 1 2 3 s t c.args.changes.now.items (setting_change kept_format s t ∷ []) (omega arith) (omega arith) c.requires.covers (Covers-setting kept_format s t))

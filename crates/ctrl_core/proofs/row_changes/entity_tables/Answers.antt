use Rattle.std.proofs.Common.{sym, subst, arith}
use Rattle.row_codec.specs.CoveredTables.{Covers}
use Rattle.row_laws.proofs.Covers.{Covers-append}
use Rattle.ctrl_core.specs.ChangedStores.{next_state}
use Rattle.ctrl_core.specs.KeptFormat.{kept_format}
use Rattle.core_stores.specs.StoredState.{state_of}
use Rattle.ctrl_core.proofs.row_changes.entity_tables.Goals as goal

pub returns : goal.returns
returns c =
    let s = state_of c.args.stores.now in
    let t = next_state c.args.stores.now c.args.change.now in
    subst (λ cs. Covers kept_format 1 6 s t cs) (sym c.in_ok-append.ensures)
    (Covers-append kept_format 1 3 6 s t c.push_setting.new.changes.items c.in_ok-entity_rows.field-0 (omega arith) (omega arith) c.in_ok-push_setting.ensures c.in_ok-entity_rows.ensures)

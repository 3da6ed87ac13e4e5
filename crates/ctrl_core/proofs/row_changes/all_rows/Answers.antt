use Rattle.std.proofs.Common.{sym, subst, arith}
use Rattle.row_codec.specs.CoveredTables.{Covers}
use Rattle.row_laws.proofs.Covers.{Covers-append}
use Rattle.core_stores.specs.StoredState.{state_of}
use Rattle.ctrl_core.specs.ChangedStores.{next_state}
use Rattle.ctrl_core.specs.KeptFormat.{kept_format}
use Rattle.ctrl_core.proofs.row_changes.all_rows.Goals as goal

pub returns : goal.returns
returns c =
    let s = state_of c.args.stores.now in
    let t = next_state c.args.stores.now c.args.change.now in
    let counts =
    subst (λ cs. Covers kept_format 1 16 s t cs) (sym c.in_ok-append.ensures)
    (Covers-append kept_format 1 12 16 s t c.push_records.new.changes.items c.in_ok-count_rows.field-0 (omega arith) (omega arith) c.in_ok-push_records.ensures c.in_ok-count_rows.ensures) in
    let all =
    subst (λ cs. Covers kept_format 1 17 s t cs) (sym c.in_ok-append-2.ensures)
    (Covers-append kept_format 1 16 17 s t c.append.new.changes.items c.in_ok-intercept_rows.field-0 (omega arith) (omega arith) counts c.in_ok-intercept_rows.ensures) in
    subst (λ cs. Covers kept_format 1 17 s t cs) (sym c.of.ensures) all

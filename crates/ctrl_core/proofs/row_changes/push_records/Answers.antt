use Rattle.std.proofs.Common.{◌++◌, sym, ◌∙◌, ap, subst, arith}
use Rattle.row_codec.specs.CoveredTables.{Covers}
use Rattle.row_laws.proofs.Covers.{Covers-append}
use Rattle.ctrl_core.specs.ChangedStores.{next_state}
use Rattle.ctrl_core.specs.KeptFormat.{kept_format}
use Rattle.core_stores.specs.StoredState.{state_of}
use Rattle.ctrl_core.proofs.row_changes.push_records.Goals as goal

pub returns : goal.returns
returns c =
    let s = state_of c.args.stores.now in
    let t = next_state c.args.stores.now c.args.change.now in
    let old = c.args.changes.now.items in
    let links = c.in_ok-link_rows.field-0 in
    let policies = c.in_ok-policy_rows.field-0 in
    let terms = c.in_ok-term_rows.field-0 in
    let circuits = c.in_ok-circuit_rows.field-0 in
    subst (λ cs. Covers kept_format 1 12 s t cs)
    (sym (c.in_ok-append-4.ensures ∙ ap (λ xs. xs ++ circuits) (c.in_ok-append-3.ensures ∙ ap (λ xs. xs ++ terms) (c.in_ok-append-2.ensures ∙ ap (λ xs. xs ++ policies) c.in_ok-append.ensures))))
    (Covers-append kept_format 1 11 12 s t (((old ++ links) ++ policies) ++ terms) circuits (omega arith) (omega arith)
    (Covers-append kept_format 1 10 11 s t ((old ++ links) ++ policies) terms (omega arith) (omega arith)
    (Covers-append kept_format 1 7 10 s t (old ++ links) policies (omega arith) (omega arith)
    (Covers-append kept_format 1 6 7 s t old links (omega arith) (omega arith) c.requires.covers c.in_ok-link_rows.ensures) c.in_ok-policy_rows.ensures) c.in_ok-term_rows.ensures) c.in_ok-circuit_rows.ensures)

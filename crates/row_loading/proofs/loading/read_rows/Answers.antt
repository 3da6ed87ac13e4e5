use Rattle.std.proofs.Common.{◌≡◌, List, length, subst, arith}
use Rattle.std.proofs.lemmas.List.{take_all}
use Rattle.std.proofs.lemmas.Result.{err_from_is_err_and}
use Rattle.std.specs.Option.{option_map}
use Rattle.row_codec.specs.declared.changes.Op.{Op}
use Rattle.row_loading.specs.declared.faults.CoreFault.TheVariants.{NotAState}
use Rattle.row_loading.specs.LoadedRows.{Loads}
use Rattle.row_loading.proofs.ReadRows.{reads_next, unread, loads, handed_on}
use Rattle.row_loading.proofs.loading.read_rows.Goals as goal

pub returns-in_err-row-clause-unread : goal.returns-in_err-row-clause-unread
returns-in_err-row-clause-unread c = λ place flaw told.
    let p = err_from_is_err_and c.from_residual.result c.from_residual.ensures.1 in
    let is = handed_on c.from_residual.result c.in_err-row.field-0.0 (NotAState place flaw) (rw p.2 at p.1) told in
    let here = c.in_err-row.ensures.place place flaw is in
    let at : place ≡ length c.ops.rows.items = omega (arith, here, c.len.ensures, c.ops.rows.ok.0) in
    unread c.args.format c.args.ops.now c.ops.op-index (option_map (λ l. l.now) c.ops.last) c.ops.rows.items c.op-item.result place flaw
    c.ops.invariant c.ops-test.true c.op-item.is at (c.in_err-row.ensures.flaw place flaw is)

pub ops-preserved : goal.ops-preserved
ops-preserved c =
    rw (c.key_of.ensures, c.in_ok-keep_row.ensures)
    (reads_next c.args.format c.args.ops.now c.ops.op-index (option_map (λ l. l.now) c.ops.last) c.ops.rows.items c.op-item.result c.in_ok-row.row
    c.ops.invariant c.ops-test.true c.op-item.is c.in_ok-row.ensures.read)

pub returns-clause-read : goal.returns-clause-read
returns-clause-read c =
    subst (λ (ops : List Op). Loads c.args.format ops c.ops.rows.items) (take_all c.ops.op-index c.args.ops.now c.ops-test.false)
    (loads c.args.format _ _ c.ops.rows.items c.ops.invariant)

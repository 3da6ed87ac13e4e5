use Rattle.std.proofs.Common.{Err, ap}
use Rattle.row_codec.specs.declared.faults.RowFault.{RowFault}
use Rattle.std.specs.Option.{option_map}
use Rattle.row_loading.proofs.ReadRows.{puts_next, wants_next}
use Rattle.row_loading.proofs.loading.next_row.Goals as goal

pub returns-clause-read : goal.returns-clause-read
returns-clause-read c =
    puts_next c.args.format (option_map (λ l. l.now) c.args.last) c.args.op.now c.in-Ok.row c.key_of.result.now c.comes_after-comes.result
    c.in-Ok.ensures.read c.key_of.ensures c.comes_after-comes.ensures c.if-not-comes.false

pub returns-in-Err-NoMemory : goal.returns-in-Err-NoMemory
returns-in-Err-NoMemory c =
    let put = c.in-Err-NoMemory.ensures.memory (ap (λ (e : RowFault). Err e) c.in-Err-NoMemory.field-0-is) in
    let w = wants_next c.args.format (option_map (λ l. l.now) c.args.last) c.args.op.now put.0 c.key_of.result.now c.comes_after-comes.result c.args.place c.wanting.result put.1
    c.key_of.ensures c.comes_after-comes.ensures c.wanting.ensures in
    record { read = tt; place = w.place_is; flaw = w.flaw_is; memory = w.memory }

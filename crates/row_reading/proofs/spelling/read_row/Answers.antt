use Rattle.std.proofs.Common.{arith}
use Rattle.row_reading.proofs.RowLaws.{reads_row}
use Rattle.row_reading.proofs.spelling.read_row.Goals as goal

pub returns : goal.returns
returns c =
    let r = reads_row c.args.format c.args.key.now c.args.value.now c.build_row.result (λ i. omega (arith, c.type_inv.key i)) (λ i. omega (arith, c.type_inv.value i)) c.build_row.ensures in
    record { read = r.read; bad = r.bad; never = r.never; memory = r.memory }

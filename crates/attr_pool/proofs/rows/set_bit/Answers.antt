use Rattle.std.proofs.Common.{◌<◌, ◌/◌, length, arith}
use Rattle.attr_pool.proofs.BitRows.{bit_of-set}
use Rattle.attr_pool.proofs.rows.set_bit.Goals as goal

pub returns : goal.returns
returns c = λ n.
    let within : c.args.number / 64 < length c.args.row.now = omega arith in
    bit_of-set c.args.row.now c.args.number within n

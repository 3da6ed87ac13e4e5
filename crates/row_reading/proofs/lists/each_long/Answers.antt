use Rattle.std.proofs.Common.{◌≡◌, None, sym, arith}
use Rattle.row_codec.specs.FieldReading.{front_long}
use Rattle.row_reading.specs.RowReading.{things_in}
use Rattle.row_reading.proofs.LoopLaws.{goes_on, ends}
use Rattle.row_reading.proofs.lists.each_long.Goals as goal

pub returns-in_default : goal.returns-in_default
returns-in_default c =
    let none : front_long c.numbers.rest.now ≡ None = grind arith in
    ends front_long c.numbers.numbers.items c.args.count c.numbers.counter c.numbers.rest.now (things_in front_long c.args.count c.args.bytes.now) c.numbers-test.true none c.numbers.invariant

pub numbers-preserved : goal.numbers-preserved
numbers-preserved c =
    rw c.in_ok-push.ensures.items
    (goes_on front_long c.numbers.numbers.items c.args.count c.numbers.counter c.numbers.rest.now c.in-Some.number c.in-Some.after.now (things_in front_long c.args.count c.args.bytes.now)
    c.numbers-test.true (sym c.in-Some.ensures) c.numbers.invariant)

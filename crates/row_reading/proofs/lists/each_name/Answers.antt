use Rattle.std.proofs.Common.{sym}
use Rattle.row_codec.specs.FieldReading.{front_name}
use Rattle.row_reading.specs.RowReading.{things_in}
use Rattle.row_reading.proofs.LoopLaws.{goes_on}
use Rattle.row_reading.proofs.lists.each_name.Goals as goal

pub names-preserved : goal.names-preserved
names-preserved c =
    rw (c.in_ok-push.ensures.items, c.in_ok-named.ensures)
    (goes_on front_name c.names.names.items c.args.count c.names.counter c.names.rest.now c.in-Some.name.now c.in-Some.after.now (things_in front_name c.args.count c.args.bytes.now)
    c.names-test.true (sym c.in-Some.ensures) c.names.invariant)

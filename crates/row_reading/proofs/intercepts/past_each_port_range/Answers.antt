use Rattle.std.proofs.Common.{sym}
use Rattle.row_codec.specs.FieldReading.{behind, front_each}
use Rattle.row_codec.proofs.SkipLaws.{skips_on}
use Rattle.row_reading.specs.RowReading.{front_port_range}
use Rattle.row_reading.proofs.intercepts.past_each_port_range.Goals as goal

pub ports-preserved : goal.ports-preserved
ports-preserved c =
    skips_on front_port_range c.args.count c.ports.counter c.ports.rest.now c.in_ok-after.field-0-0 c.in_ok-after.after.now
    (behind (front_each front_port_range c.args.count c.args.bytes.now)) c.ports-test.true (sym c.in_ok-after.ensures) c.ports.invariant

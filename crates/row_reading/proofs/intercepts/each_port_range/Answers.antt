use Rattle.std.proofs.Common.{◌≡◌, None, sym, arith}
use Rattle.row_reading.specs.RowReading.{front_port_range, things_in}
use Rattle.row_reading.proofs.LoopLaws.{goes_on, ends}
use Rattle.row_reading.proofs.intercepts.each_port_range.Goals as goal

pub returns-in_default : goal.returns-in_default
returns-in_default c =
    let none : front_port_range c.ports.rest.now ≡ None = grind arith in
    ends front_port_range c.ports.ranges.items c.args.count c.ports.counter c.ports.rest.now (things_in front_port_range c.args.count c.args.bytes.now) c.ports-test.true none c.ports.invariant

pub ports-preserved : goal.ports-preserved
ports-preserved c =
    rw c.in_ok-push.ensures.items
    (goes_on front_port_range c.ports.ranges.items c.args.count c.ports.counter c.ports.rest.now c.in-Some.range c.in-Some.after.now (things_in front_port_range c.args.count c.args.bytes.now)
    c.ports-test.true (sym c.in-Some.ensures) c.ports.invariant)

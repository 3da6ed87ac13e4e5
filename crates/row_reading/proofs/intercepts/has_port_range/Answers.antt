use Rattle.std.proofs.Common.{◌≡◌, None, sym, ◌∙◌, arith}
use Rattle.ctrl_model.specs.InterceptForm.{same_ports}
use Rattle.row_reading.specs.RowReading.{front_port_range}
use Rattle.row_reading.proofs.LoopLaws.{any_on, any_found, any_ends, any_done}
use Rattle.row_reading.proofs.intercepts.has_port_range.Goals as goal

pub returns-in_default : goal.returns-in_default
returns-in_default c =
    let none : front_port_range c.ports.rest.now ≡ None = grind arith in
    any_ends (same_ports c.args.range) front_port_range c.args.count c.ports.counter c.ports.rest.now _ c.ports.invariant c.ports-test.true none

pub returns-then-is_same : goal.returns-then-is_same
returns-then-is_same c =
    any_found (same_ports c.args.range) front_port_range c.args.count c.ports.counter c.ports.rest.now _ c.ports.invariant c.in-Some.next c.in-Some.after.now c.ports-test.true (sym c.in-Some.ensures)
    (sym c.is_same.ensures ∙ c.if-is_same.true)

pub ports-preserved : goal.ports-preserved
ports-preserved c =
    any_on (same_ports c.args.range) front_port_range c.args.count c.ports.counter c.ports.rest.now _ c.ports.invariant c.in-Some.next c.in-Some.after.now c.ports-test.true (sym c.in-Some.ensures)
    (sym c.is_same.ensures ∙ c.if-is_same.false)

pub returns : goal.returns
returns c = any_done (same_ports c.args.range) front_port_range c.args.count c.ports.counter c.ports.rest.now _ c.ports.invariant c.ports-test.false

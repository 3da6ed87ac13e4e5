use Rattle.std.proofs.Common.{◌≡◌, ℕ, ◌+◌, ◌-◌, None, sym, ◌∙◌, ap, arith}
use Rattle.std.specs.List.{list_any}
use Rattle.ctrl_model.specs.InterceptForm.{same_ports}
use Rattle.row_reading.specs.RowReading.{front_port_range, things_in}
use Rattle.row_reading.proofs.LoopLaws.{differ_on, differ_found, differ_ends, differ_done}
use Rattle.row_reading.proofs.intercepts.port_ranges_differ.Goals as goal

pub returns-in_default : goal.returns-in_default
returns-in_default c =
    let none : front_port_range c.ports.rest.now ≡ None = grind arith in
    differ_ends same_ports front_port_range c.args.count c.ports.done c.ports.rest.now _ c.ports.invariant c.ports-test.true none

pub returns-then-has_port_range : goal.returns-then-has_port_range
returns-then-has_port_range c =
    let n : c.args.count - (c.ports.done + 1) ≡ c.args.count - c.ports.done - 1 = omega arith in
    differ_found same_ports front_port_range c.args.count c.ports.done c.ports.rest.now _ c.ports.invariant c.in-Some.range c.in-Some.after.now c.ports-test.true (sym c.in-Some.ensures)
    (ap (λ (m : ℕ). list_any (same_ports c.in-Some.range) (things_in front_port_range m c.in-Some.after.now)) n ∙ sym c.has_port_range.ensures ∙ c.if-has_port_range.true)

pub ports-preserved : goal.ports-preserved
ports-preserved c =
    let n : c.args.count - (c.ports.done + 1) ≡ c.args.count - c.ports.done - 1 = omega arith in
    differ_on same_ports front_port_range c.args.count c.ports.done c.ports.rest.now _ c.ports.invariant c.in-Some.range c.in-Some.after.now c.ports-test.true (sym c.in-Some.ensures)
    (ap (λ (m : ℕ). list_any (same_ports c.in-Some.range) (things_in front_port_range m c.in-Some.after.now)) n ∙ sym c.has_port_range.ensures ∙ c.if-has_port_range.false)

pub returns : goal.returns
returns c = differ_done same_ports front_port_range c.args.count c.ports.done c.ports.rest.now _ c.ports.invariant c.ports-test.false

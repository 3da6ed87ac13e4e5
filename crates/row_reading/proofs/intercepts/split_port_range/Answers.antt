use Rattle.std.proofs.Common.{true, false, sym, ◌∙◌}
use Rattle.row_reading.proofs.ClaimReading.{ports_read}
use Rattle.row_reading.proofs.intercepts.split_port_range.Goals as goal

pub returns-then-not-is_port_range : goal.returns-then-not-is_port_range
returns-then-not-is_port_range c =
    sym (ports_read c.args.bytes.now c.in_ok-low.low c.in_ok-low.rest.now c.in_ok-high.high c.in_ok-high.after.now c.in_ok-low.ensures c.in_ok-high.ensures false
    (sym c.is_port_range.ensures ∙ c.if-not-is_port_range.true))

pub returns : goal.returns
returns c =
    sym (ports_read c.args.bytes.now c.in_ok-low.low c.in_ok-low.rest.now c.in_ok-high.high c.in_ok-high.after.now c.in_ok-low.ensures c.in_ok-high.ensures true
    (sym c.is_port_range.ensures ∙ c.if-not-is_port_range.false))

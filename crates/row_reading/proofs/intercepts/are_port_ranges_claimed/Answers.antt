use Rattle.std.proofs.Common.{◌≡◌, None, sym, arith}
use Rattle.ctrl_model.specs.InterceptForm.{same_ports}
use Rattle.row_codec.specs.FieldReading.{front_byte}
use Rattle.row_reading.specs.RowReading.{front_port_range}
use Rattle.row_reading.proofs.ClaimReading.{no_list_claimed, empty_claimed, nothing_claimed, things_claimed}
use Rattle.row_reading.proofs.intercepts.are_port_ranges_claimed.Goals as goal

pub returns-in_default : goal.returns-in_default
returns-in_default c =
    let none : None ≡ front_byte c.args.bytes.now = grind arith in
    no_list_claimed same_ports front_port_range c.args.bytes.now none

pub returns-then-count-eq0 : goal.returns-then-count-eq0
returns-then-count-eq0 c = empty_claimed same_ports front_port_range c.args.bytes.now c.in-Some.count c.in-Some.rest.now c.in-Some.ensures c.if-count-eq0.true

pub returns-in-None : goal.returns-in-None
returns-in-None c =
    let none : front_port_range c.in-Some.rest.now ≡ None = grind arith in
    nothing_claimed same_ports front_port_range c.args.bytes.now c.in-Some.count c.in-Some.rest.now c.in-Some.ensures none

pub returns-in-Some-split_port_range : goal.returns-in-Some-split_port_range
returns-in-Some-split_port_range c =
    things_claimed same_ports front_port_range c.args.bytes.now c.in-Some.count c.in-Some.rest.now _ c.in-Some.ensures (omega arith) (sym c.in-Some-split_port_range.ensures) c.port_ranges_differ.result c.port_ranges_differ.ensures

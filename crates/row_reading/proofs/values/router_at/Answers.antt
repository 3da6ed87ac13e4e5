use Rattle.std.proofs.Common.{arith}
use Rattle.row_codec.specs.FieldReading.{both, front_code, front_name, front_names, front_short, marks_meant}
use Rattle.row_reading.proofs.FormLaws.{both_read, not_alone}
use Rattle.row_reading.proofs.values.router_at.Goals as goal

pub returns-in_default : goal.returns-in_default
returns-in_default c =
    let behind_name = both_read front_names (both front_short (front_code marks_meant)) c.in_ok-name.rest.now _ c.in_ok-attributes.rest.now _ c.in_ok-numbers.end.now c.in_ok-attributes.ensures c.in_ok-numbers.ensures in
    not_alone front_name (both front_names (both front_short (front_code marks_meant))) c.args.value.now _ c.in_ok-name.rest.now _ c.in_ok-numbers.end.now
    c.in_ok-name.ensures behind_name (omega (arith, c.in_default.len_at_least))

use Rattle.std.proofs.Common.{arith}
use Rattle.row_codec.specs.FieldReading.{both, front_code, front_name, relation_meant}
use Rattle.row_reading.specs.RowReading.{front_sides}
use Rattle.row_reading.proofs.FormLaws.{both_read, not_alone}
use Rattle.row_reading.proofs.values.service_policy_at.Goals as goal

pub returns-in_default : goal.returns-in_default
returns-in_default c =
    let behind_name = both_read (front_code relation_meant) front_sides c.in_ok-name.rest.now _ c.in_ok-relation.rest.now _ c.in_ok-sides.end.now c.in_ok-relation.ensures c.in_ok-sides.ensures in
    not_alone front_name (both (front_code relation_meant) front_sides) c.args.value.now _ c.in_ok-name.rest.now _ c.in_ok-sides.end.now
    c.in_ok-name.ensures behind_name (omega (arith, c.in_default.len_at_least))

use Rattle.std.proofs.Common.{arith}
use Rattle.row_codec.specs.FieldReading.{both, front_long, front_name}
use Rattle.row_reading.specs.RowReading.{front_costs}
use Rattle.row_reading.proofs.FormLaws.{not_alone}
use Rattle.row_reading.proofs.values.link_at.Goals as goal

pub returns-in_default : goal.returns-in_default
returns-in_default c =
    not_alone front_name (both front_long (both front_long front_costs)) c.args.value.now _ c.in_ok-name.rest.now _ c.in_ok-numbers.end.now
    c.in_ok-name.ensures c.in_ok-numbers.ensures (omega (arith, c.in_default.len_at_least))

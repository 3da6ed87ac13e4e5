use Rattle.std.proofs.Common.{◌≤◌, length, arith, ap}
use Rattle.std.specs.Option.{option_map}
use Rattle.row_codec.specs.FieldReading.{both, front_long, mapped}
use Rattle.row_reading.specs.RowReading.{front_place, host_named}
use Rattle.row_reading.proofs.FormLaws.{both_read, not_alone}
use Rattle.row_reading.proofs.values.terminator_at.Goals as goal

pub returns-in_default : goal.returns-in_default
returns-in_default c =
    let longer : 1 ≤ length c.in_ok-place.end.now = omega (arith, c.in_default.len_at_least) in
    let host = mapped host_named front_long in
    let named = ap (λ o. option_map (λ x. (host_named x.0, x.1)) o) c.in_ok-host.ensures in
    let placed = both_read host front_place c.in_ok-router.rest.now _ c.in_ok-host.rest.now _ c.in_ok-place.end.now named c.in_ok-place.ensures in
    let routed = both_read front_long (both host front_place) c.in_ok-service.rest.now _ c.in_ok-router.rest.now _ c.in_ok-place.end.now c.in_ok-router.ensures placed in
    not_alone front_long (both front_long (both host front_place)) c.args.value.now _ c.in_ok-service.rest.now _ c.in_ok-place.end.now
    c.in_ok-service.ensures routed longer

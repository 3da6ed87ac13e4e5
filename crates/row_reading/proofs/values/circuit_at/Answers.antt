use Rattle.std.proofs.Common.{◌≤◌, length, arith}
use Rattle.ctrl_model.specs.Limits.{longest_path}
use Rattle.row_codec.specs.FieldReading.{both, front_list, front_long}
use Rattle.row_reading.proofs.FormLaws.{both_read, not_alone}
use Rattle.row_reading.proofs.values.circuit_at.Goals as goal

pub returns-in_default : goal.returns-in_default
returns-in_default c =
    let longer : 1 ≤ length c.in_ok-links.end.now = omega (arith, c.in_default.len_at_least) in
    let links = front_list longest_path front_long in
    let entered = both_read front_long links c.in_ok-terminator.rest.now _ c.in_ok-ingress.rest.now _ c.in_ok-links.end.now c.in_ok-ingress.ensures c.in_ok-links.ensures in
    let ended = both_read front_long (both front_long links) c.in_ok-service.rest.now _ c.in_ok-terminator.rest.now _ c.in_ok-links.end.now c.in_ok-terminator.ensures entered in
    let served = both_read front_long (both front_long (both front_long links)) c.in_ok-identity.rest.now _ c.in_ok-service.rest.now _ c.in_ok-links.end.now c.in_ok-service.ensures ended in
    not_alone front_long (both front_long (both front_long (both front_long links))) c.args.value.now _ c.in_ok-identity.rest.now _ c.in_ok-links.end.now
    c.in_ok-identity.ensures served longer

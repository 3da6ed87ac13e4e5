use Rattle.std.proofs.Common.{ap, ◌∙◌}
use Rattle.slot_reading.specs.BatchRows.{serial_in, serial_of, serial_key}
use Rattle.slot_reading.proofs.MapRows.{looked_up, copied_is}
use Rattle.follow_core.proofs.judging.serial_after.Goals as goal

pub returns : goal.returns
returns c =
    c.serial_in.ensures ∙ ap serial_in (copied_is c.get.result ∙ c.get.ensures.value ∙ looked_up c.in_ok-rows.rows.entries serial_key)
    ∙ ap serial_of c.in_ok-rows.ensures.rows

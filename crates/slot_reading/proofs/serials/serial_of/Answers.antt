use Rattle.std.proofs.Common.{ap, ◌∙◌}
use Rattle.slot_reading.specs.BatchRows.{serial_in, serial_key}
use Rattle.slot_reading.proofs.MapRows.{looked_up, copied_is}
use Rattle.slot_reading.proofs.serials.serial_of.Goals as goal

pub returns : goal.returns
returns c = c.serial_in.ensures ∙ ap serial_in (copied_is c.get.result ∙ c.get.ensures.value ∙ looked_up c.args.rows.now.entries serial_key)

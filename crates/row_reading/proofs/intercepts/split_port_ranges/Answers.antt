use Rattle.ctrl_model.specs.Limits.{most_claimed}
use Rattle.row_reading.specs.RowReading.{front_port_range}
use Rattle.row_reading.proofs.LoopLaws.{list_at}
use Rattle.row_reading.proofs.intercepts.split_port_ranges.Goals as goal

pub returns : goal.returns
returns c = list_at most_claimed front_port_range c.args.bytes.now c.in_ok-rest.rest.now c.in_ok-rest.ensures

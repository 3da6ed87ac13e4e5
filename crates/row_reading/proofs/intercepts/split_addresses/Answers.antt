use Rattle.ctrl_model.specs.Limits.{most_claimed}
use Rattle.row_reading.specs.RowReading.{front_address}
use Rattle.row_reading.proofs.LoopLaws.{list_at}
use Rattle.row_reading.proofs.intercepts.split_addresses.Goals as goal

pub returns : goal.returns
returns c = list_at most_claimed front_address c.args.bytes.now c.in_ok-rest.rest.now c.in_ok-rest.ensures

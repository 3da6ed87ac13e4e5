use Rattle.ctrl_model.specs.Limits.{longest_path}
use Rattle.row_codec.specs.FieldReading.{front_long}
use Rattle.row_reading.proofs.LoopLaws.{list_at}
use Rattle.row_reading.proofs.lists.split_links.Goals as goal

pub returns : goal.returns
returns c = list_at longest_path front_long c.args.bytes.now c.in_ok-rest.rest.now c.in_ok-rest.ensures

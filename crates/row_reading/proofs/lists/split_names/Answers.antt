use Rattle.ctrl_model.specs.Limits.{most_entries}
use Rattle.row_codec.specs.FieldReading.{front_name}
use Rattle.row_reading.proofs.LoopLaws.{list_at}
use Rattle.row_reading.proofs.lists.split_names.Goals as goal

pub returns : goal.returns
returns c = list_at most_entries front_name c.args.bytes.now c.in_ok-rest.rest.now c.in_ok-rest.ensures

use Rattle.std.proofs.Common.{None}
use Rattle.ship_frames.specs.GatheredPieces.{parts_behind}
use Rattle.ship_frames.proofs.ReadingLaws.{read_is}
use Rattle.ship_frames.proofs.GatheringLaws.{all_held, held_len}
use Rattle.ship_frames.proofs.laws.parts_are_bounded.Goals as goal

pub returns : goal.returns
returns c = record {
  read = read_is;
  held = λ pieces are. held_len (parts_behind None pieces) (all_held None pieces tt are);
}

use Rattle.std.proofs.Common.{◌+◌, ◌∙◌, nat_le}
use Rattle.attr_pool.proofs.RoomLaws.{slots_told}
use Rattle.attr_pool.proofs.room.has_slots.Goals as goal

pub returns : goal.returns
returns c =
    (λ j. nat_le (c.held_count.ensures.count j + c.new_count.ensures.count j) (4096 + c.left_count.ensures.count j))
    ∙ slots_told c.args.slots.now c.requires.pool c.args.gone.now c.args.fresh.now c.requires.used

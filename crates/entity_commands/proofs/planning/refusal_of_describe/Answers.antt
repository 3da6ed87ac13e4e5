use Rattle.entity_commands.proofs.EntityPlans.{used_of}
use Rattle.entity_commands.proofs.planning.refusal_of_describe.Goals as goal

pub has_room-requires : goal.has_room-requires
has_room-requires c = used_of c.args.kind c.args.entities.now c.args.number _ c.in-Some.ensures

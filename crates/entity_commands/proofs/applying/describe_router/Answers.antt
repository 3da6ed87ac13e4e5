use Rattle.std.proofs.Common.{refl}
use Rattle.entity_commands.proofs.ApplyLaws.{there_after}
use Rattle.entity_commands.proofs.applying.describe_router.Goals as goal

pub set_router-requires-clause-there : goal.set_router-requires-clause-there
set_router-requires-clause-there c = rw (c.in_ok-update.ensures.ok) (there_after c.args.number c.args.attributes.now c.args.entities.now c.requires.there)

pub returns : goal.returns
returns c = rw (c.set_router.ensures, c.in_ok-update.ensures.ok) refl

use Rattle.std.proofs.Common.{refl}
use Rattle.entity_commands.proofs.ApplyLaws.{there_added}
use Rattle.entity_commands.proofs.applying.add_router.Goals as goal

pub set_router-requires-clause-there : goal.set_router-requires-clause-there
set_router-requires-clause-there c =
    rw (c.next-number.ensures.next, c.in_ok-add.ensures.ok.1) (there_added c.args.name.now c.args.attributes.now c.args.entities.now)

pub returns : goal.returns
returns c = rw (c.set_router.ensures, c.next-number.ensures.next, c.in_ok-add.ensures.ok.1) refl

use Rattle.entity_commands.proofs.ApplyLaws.{router_there}
use Rattle.ctrl_core.proofs.counting.described_router_steps.Goals as goal

pub described_steps-requires-clause-there : goal.described_steps-requires-clause-there
described_steps-requires-clause-there c = router_there c.args.number c.args.stores.now.entities c.requires

use Rattle.ctrl_model.specs.declared.kinds.Relation.TheVariants.{Dial, Bind, IdentityRouter, ServiceRouter}
use Rattle.circuit_settling.proofs.counting.set_steps.Goals as goal

pub set_steps-requires : goal.set_steps-requires
set_steps-requires c = rw (c.as_slice.ensures.value) (c.requires Dial)

pub set_steps-requires-2 : goal.set_steps-requires-2
set_steps-requires-2 c = rw (c.as_slice-2.ensures.value) (c.requires Bind)

pub set_steps-requires-3 : goal.set_steps-requires-3
set_steps-requires-3 c = rw (c.as_slice-3.ensures.value) (c.requires IdentityRouter)

pub set_steps-requires-4 : goal.set_steps-requires-4
set_steps-requires-4 c = rw (c.as_slice-4.ensures.value) (c.requires ServiceRouter)

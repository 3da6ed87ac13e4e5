use Rattle.ctrl_model.specs.declared.kinds.Relation.TheVariants.{Dial, Bind, IdentityRouter, ServiceRouter}
use Rattle.core_stores.proofs.TakenLaws.{taken_by_relation}
use Rattle.core_stores.proofs.stepping.apply_steps.Goals as goal

pub take_steps-requires : goal.take_steps-requires
take_steps-requires c = rw (c.as_slice.ensures.value) (c.requires Dial)

pub take_steps-requires-2 : goal.take_steps-requires-2
take_steps-requires-2 c = rw (c.as_slice-2.ensures.value) (c.requires Bind)

pub take_steps-requires-3 : goal.take_steps-requires-3
take_steps-requires-3 c = rw (c.as_slice-3.ensures.value) (c.requires IdentityRouter)

pub take_steps-requires-4 : goal.take_steps-requires-4
take_steps-requires-4 c = rw (c.as_slice-4.ensures.value) (c.requires ServiceRouter)

pub returns : goal.returns
returns c =
    taken_by_relation c.args.grants.now
    (record {
      dial = c.take_steps.new.counted;
      bind = c.take_steps-2.new.counted;
      identity_router = c.take_steps-3.new.counted;
      service_router = c.take_steps-4.new.counted;
    }) c.args.steps.now
    (rw c.as_slice.ensures.value at c.in_ok-take_steps.ensures)
    (rw c.as_slice-2.ensures.value at c.in_ok-take_steps-2.ensures)
    (rw c.as_slice-3.ensures.value at c.in_ok-take_steps-3.ensures)
    (rw c.as_slice-4.ensures.value at c.in_ok-take_steps-4.ensures)

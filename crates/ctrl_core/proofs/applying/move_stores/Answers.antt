use Rattle.model_laws.specs.Plans.{led_by}
use Rattle.core_stores.specs.StoredState.{state_of}
use Rattle.ctrl_core.specs.Changes.{after_change}
use Rattle.ctrl_core.proofs.StepLaws.{keeps_with_steps, room_for_steps}
use Rattle.ctrl_core.proofs.applying.move_stores.Goals as goal

pub apply_steps-requires : goal.apply_steps-requires
apply_steps-requires c =
    room_for_steps c.args.stores.now c.carry_out.new.stores (led_by after_change c.args.change (state_of c.args.stores.now)) c.args.steps.now c.requires.kept c.requires.valid c.requires.counts
    c.in_ok-carry_out.ensures.carried.counts

pub returns-clause-kept : goal.returns-clause-kept
returns-clause-kept c =
    keeps_with_steps c.args.stores.now c.carry_out.new.stores c.apply_steps.new.grants (led_by after_change c.args.change (state_of c.args.stores.now)) c.args.steps.now c.requires.kept c.requires.valid
    c.requires.counts c.in_ok-carry_out.ensures.carried c.in_ok-carry_out.ensures.loads c.in_ok-apply_steps.ensures

pub returns-clause-next : goal.returns-clause-next
returns-clause-next c = c.in_ok-carry_out.ensures.carried.next

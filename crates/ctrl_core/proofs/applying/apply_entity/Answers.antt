use Rattle.entity_commands.proofs.ApplyLaws.{can_apply}
use Rattle.core_stores.specs.StoredState.{state_of}
use Rattle.ctrl_core.proofs.ApplyLaws.{carried_entity, forgets_entity}
use Rattle.ctrl_core.proofs.applying.apply_entity.Goals as goal

pub apply_entity_change-requires : goal.apply_entity_change-requires
apply_entity_change-requires c =
    can_apply c.args.change.now (record { entities = c.args.stores.now.entities; rest = state_of c.args.stores.now }) c.requires.can c.requires.valid c.requires.held

pub forget_by-requires : goal.forget_by-requires
forget_by-requires c = forgets_entity c.args.change.now (state_of c.args.stores.now) c.requires.can

pub returns-clause-carried : goal.returns-clause-carried
returns-clause-carried c =
    rw (c.in_ok-apply_entity_change.ensures, c.forget_by.ensures, c.forget_claim.ensures)
    (carried_entity c.args.change.now c.args.stores.now c.requires.can c.requires.valid c.requires.held)

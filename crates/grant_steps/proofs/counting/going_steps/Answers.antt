use Rattle.std.proofs.Common.{Option, None, ◌∙◌, ap, subst}
use Rattle.std.proofs.lemmas.Result.{IfOk-weaker}
use Rattle.ctrl_model.specs.State.{Entity}
use Rattle.grant_steps.specs.GrantChanges.{granting_state, MovedEntity, StepsOfEntity}
use Rattle.grant_steps.proofs.counting.going_steps.Goals as goal

pub returns : goal.returns
returns c = IfOk-weaker c.entity_steps.result _ _ (λ steps is.
    subst (λ m. StepsOfEntity c.args.kind c.args.number m (granting_state c.args.known.now c.args.kept.now) steps)
    (c.going-moved.ensures ∙ ap (λ (o : Option Entity). let m : MovedEntity = record { before = o; after = None } in m) c.in-Some.ensures) is) c.entity_steps.ensures

use Rattle.std.proofs.Common.{[], ◌∷◌, ◌∙◌}
use Rattle.ship_core.proofs.SaidLaws.{wanting, whole_said, front_said, say_cause}
use Rattle.ship_core.proofs.saying.say_frame.Goals as goal

pub returns-in_err-text-clause-ships : goal.returns-in_err-text-clause-ships
returns-in_err-text-clause-ships g c = wanting c.args.desk.now c.from_residual.result (c.args.frame.now ∷ []) c.from_residual.ensures.1

pub returns-in-Ok-clause-ships : goal.returns-in-Ok-clause-ships
returns-in-Ok-clause-ships g c =
    whole_said c.args.frame.now c.as_slice.result.now (c.as_slice.ensures ∙ c.in_ok-text.ensures) c.in-Ok.ensures.taken c.in-Ok.ensures.cause.calm c.say.ensures.others c.say.ensures.stops c.say.ensures.remembers

pub returns-clause-ships : goal.returns-clause-ships
returns-clause-ships g c =
    front_said c.args.frame.now c.as_slice.result.now (c.as_slice.ensures ∙ c.in_ok-text.ensures) c.in-Err.ensures.taken (say_cause _ _ _ c.in-Err.ensures.cause) c.say.ensures.others c.say.ensures.stops c.say.ensures.remembers

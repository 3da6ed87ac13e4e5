use Rattle.ctrl_serve.proofs.ControllerLaws.{kept_limits}
use Rattle.ctrl_serve.proofs.controller.carry_kept.Goals as goal

pub returns-in-Ok-clause-limits : goal.returns-in-Ok-clause-limits
returns-in-Ok-clause-limits g c = kept_limits c.args.kept.now c.in-Ok.reply _ c.args.who.now c.args.command.now c.requires.holds c.in-Ok.ensures.step

pub returns-in-Ok-clause-stops : goal.returns-in-Ok-clause-stops
returns-in-Ok-clause-stops g c = c.submit.ensures.stops c.requires.able

pub returns-in-Err-clause-stops : goal.returns-in-Err-clause-stops
returns-in-Err-clause-stops g c = c.submit.ensures.stops c.requires.able

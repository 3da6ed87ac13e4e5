use Rattle.std.specs.Prelude.{⊤}
use Rattle.std.proofs.Common.{inr}
use Rattle.ctrl_keep.specs.KeptController.{Controlled}
use Rattle.ctrl_keep.proofs.TurnedLaws.{turned_keeps, quiet_or_failed, quiet_or_turned, cause_as}
use Rattle.ctrl_keep.proofs.keeper.Kept.load.Goals as goal

pub returns-in-Err-turn-clause-quiet_or : goal.returns-in-Err-turn-clause-quiet_or
returns-in-Err-turn-clause-quiet_or g c =
    quiet_or_failed _ ⊤ Controlled c.args.store c.in-Ok.core.state c.in-Err-turn.fault c.args.desk.now c.turn.new.desk c.in-Ok.ensures.state c.in-Err-turn.ensures.quiet_or

pub returns-in-Err-turn-clause-fault : goal.returns-in-Err-turn-clause-fault
returns-in-Err-turn-clause-fault g c = inr (c.in-Ok.core.state, c.in-Ok.ensures.state, c.in-Err-turn.ensures.fault)

pub returns-in-Err-turn-clause-cause : goal.returns-in-Err-turn-clause-cause
returns-in-Err-turn-clause-cause g c = cause_as ⊤ Controlled c.in-Err-turn.fault _ _ c.in-Err-turn.ensures.cause

pub invariant_of-result : goal.invariant_of-result
invariant_of-result g c = λ _.
    turned_keeps g.D.Desk.tells g.D.Desk.seen c.in-Ok.core c.args.store c.turn.new.store c.args.desk.now c.turn.new.desk c.in-Ok.ensures.live c.in-Ok.ensures.state c.requires.able.0
    c.requires.able.1 c.in-Ok-turn.ensures.turned

pub returns-in-Ok-turn-clause-quiet_or : goal.returns-in-Ok-turn-clause-quiet_or
returns-in-Ok-turn-clause-quiet_or g c =
    quiet_or_turned c.args.store c.in-Ok.core.state c.turn.result c.args.desk.now c.turn.new.desk c.in-Ok.ensures.state c.turn.ensures.quiet_or

use Rattle.std.proofs.Common.{refl}
use Rattle.ctrl_keep.specs.KeptController.{machine_of}
use Rattle.ctrl_keep.proofs.FollowedSteps.{follows_still}
use Rattle.serve_loop.proofs.DeskLaws.{room_calm}
use Rattle.ctrl_serve.proofs.StopLaws.{refused_stops, carried_so, carried_stops}
use Rattle.ctrl_serve.proofs.controller.answer_kept.Goals as goal

pub returns-in_err-refusal-in-Err-clause-stops : goal.returns-in_err-refusal-in-Err-clause-stops
returns-in_err-refusal-in-Err-clause-stops g c = λ told. refused_stops c.args.desk.now c.args.kept.now _ _ c.requires.holds (c.requires.stands told)

pub returns-in_ok-refusal-in-Err-clause-stops : goal.returns-in_ok-refusal-in-Err-clause-stops
returns-in_ok-refusal-in-Err-clause-stops g c = λ told. refused_stops c.args.desk.now c.args.kept.now _ _ c.requires.holds (c.requires.stands told)

pub returns-in-Ok-clause-stops : goal.returns-in-Ok-clause-stops
returns-in-Ok-clause-stops g c = λ told.
    carried_stops _ c.args.who.now c.args.frame.now c.as_slice.result.now (machine_of c.args.kept.now) c.in-Ok.command c.as_slice.ensures c.in-Ok.ensures.command (c.carry_kept-answered.ensures.stops told)

pub returns-in-Ok-clause-ok : goal.returns-in-Ok-clause-ok
returns-in-Ok-clause-ok g c =
    carried_so c.carry_kept-answered.result _ c.args.who.now c.args.frame.now c.as_slice.result.now (machine_of c.args.kept.now) (machine_of c.carry_kept-answered.new.kept) c.in-Ok.command c.as_slice.ensures c.in-Ok.ensures.command
    c.carry_kept-answered.ensures.ok

pub returns-in_err-refusal-in-Err-clause-room : goal.returns-in_err-refusal-in-Err-clause-room
returns-in_err-refusal-in-Err-clause-room g c = room_calm _ c.args.desk.now

pub returns-in_ok-refusal-in-Err-clause-room : goal.returns-in_ok-refusal-in-Err-clause-room
returns-in_ok-refusal-in-Err-clause-room g c = room_calm _ c.args.desk.now

pub returns-in_ok-refusal-in-Err-clause-follows : goal.returns-in_ok-refusal-in-Err-clause-follows
returns-in_ok-refusal-in-Err-clause-follows g c = λ told. follows_still _ _ _ _ refl refl

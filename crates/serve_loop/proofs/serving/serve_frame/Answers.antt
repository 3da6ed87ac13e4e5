use Rattle.std.proofs.Common.{ap, ◌∙◌}
use Rattle.ziti_outside.specs.Images.{Image}
use Rattle.ziti_outside.proofs.MomentLaws.{Elapses-none}
use Rattle.journal_core.proofs.RoomLaws.{held_none, held_then}
use Rattle.serve_loop.specs.Turns.{Turn, reply_to_frame}
use Rattle.serve_loop.proofs.DeskLaws.{OnlySaysAndNotes-none, desk_behind, ready_behind, room_calm, says_behind}
use Rattle.serve_loop.proofs.FollowLaws.{follows_behind}
use Rattle.serve_loop.proofs.OwnReplyLaws.{front_own, stops_own, took_own}
use Rattle.serve_loop.proofs.StopLaws.{turn_stops, turn_stops_short}
use Rattle.serve_loop.proofs.TurnLaws.{reply_behind, turn_cut, turn_taken}
use Rattle.serve_loop.proofs.serving.serve_frame.Goals as goal

pub returns-in-Ok-clause-ok : goal.returns-in-Ok-clause-ok
returns-in-Ok-clause-ok g c =
    let answerer = g.A.AnswersFrames.answers (g.A.AnswersFrames.serving c.args.answerer.now).bounds in
    let machine = (g.A.AnswersFrames.machine g.D.Desk.tells (g.D.Desk.seen c.args.desk.now).reads c.args.answerer.now) in
    let reply = reply_to_frame answerer c.args.address c.args.who.now c.args.frame.now machine in
    record {
      next = ap (λ (reads : Image). g.A.AnswersFrames.machine g.D.Desk.tells reads c.answer.new.self) c.say.ensures.others.parts ∙ c.in_ok-answer.ensures.next;
      said = took_own g.A.AnswersFrames.by_folder g.D.Desk.tells (g.D.Desk.seen c.args.desk.now) (g.D.Desk.seen c.say.new.self) reply
          (λ own. turn_taken (g.D.Desk.seen c.args.desk.now).said (g.D.Desk.seen c.answer.new.desk).said (g.D.Desk.seen c.say.new.self).said
          (c.as_slice.ensures.value ∙ reply_behind answerer c.args.address c.args.who.now c.args.frame.now machine _ _ c.in_ok-bytes.ensures (c.in_ok-answer.ensures.written own))
          c.answer.ensures.others.replies c.in-Ok.ensures.taken);
    }

pub returns-clause-cut : goal.returns-clause-cut
returns-clause-cut g c =
    let answerer = g.A.AnswersFrames.answers (g.A.AnswersFrames.serving c.args.answerer.now).bounds in
    let machine = (g.A.AnswersFrames.machine g.D.Desk.tells (g.D.Desk.seen c.args.desk.now).reads c.args.answerer.now) in
    front_own g.A.AnswersFrames.by_folder g.D.Desk.tells (g.D.Desk.seen c.args.desk.now) (g.D.Desk.seen c.say.new.self) (reply_to_frame answerer c.args.address c.args.who.now c.args.frame.now machine)
    (λ own. turn_cut answerer c.args.address c.args.who.now c.args.frame.now machine c.as_slice.result.now _ (g.D.Desk.seen c.answer.new.desk).said _
    (c.as_slice.ensures.value ∙ reply_behind answerer c.args.address c.args.who.now c.args.frame.now machine _ _ c.in_ok-bytes.ensures (c.in_ok-answer.ensures.written own))
    c.answer.ensures.others.replies c.in-Err.ensures.taken)

pub returns-in_err-bytes-clause-stops : goal.returns-in_err-bytes-clause-stops
returns-in_err-bytes-clause-stops g c = λ some told. Elapses-none _ _

pub returns-in_err-answer-clause-stops : goal.returns-in_err-answer-clause-stops
returns-in_err-answer-clause-stops g c = λ some told.
    let answerer = g.A.AnswersFrames.answers (g.A.AnswersFrames.serving c.args.answerer.now).bounds in
    let machine = (g.A.AnswersFrames.machine g.D.Desk.tells (g.D.Desk.seen c.args.desk.now).reads c.args.answerer.now) in
    let next = answerer.next c.args.who.now c.args.frame.now machine in
    let reply = reply_to_frame answerer c.args.address c.args.who.now c.args.frame.now machine in
    stops_own g.A.AnswersFrames.by_folder g.D.Desk.tells (g.D.Desk.seen c.args.desk.now) (Turn answerer machine next reply) (λ told own. turn_stops_short answerer machine next reply (c.answer.ensures.stops some told)) told

pub returns-in-Ok-clause-stops : goal.returns-in-Ok-clause-stops
returns-in-Ok-clause-stops g c = λ some told.
    let answerer = g.A.AnswersFrames.answers (g.A.AnswersFrames.serving c.args.answerer.now).bounds in
    let machine = (g.A.AnswersFrames.machine g.D.Desk.tells (g.D.Desk.seen c.args.desk.now).reads c.args.answerer.now) in
    let next = answerer.next c.args.who.now c.args.frame.now machine in
    let reply = reply_to_frame answerer c.args.address c.args.who.now c.args.frame.now machine in
    stops_own g.A.AnswersFrames.by_folder g.D.Desk.tells (g.D.Desk.seen c.args.desk.now) (Turn answerer machine next reply)
    (λ told own. turn_stops answerer machine next (g.A.AnswersFrames.machine g.D.Desk.tells (g.D.Desk.seen c.answer.new.desk).reads c.answer.new.self)
    reply c.as_slice.result.now (c.answer.ensures.stops some told) c.in_ok-answer.ensures.next
    (c.as_slice.ensures.value ∙ reply_behind answerer c.args.address c.args.who.now c.args.frame.now machine _ _ c.in_ok-bytes.ensures (c.in_ok-answer.ensures.written own))
    (c.in_ok-answer.ensures.found some told) c.say.ensures.stops) told

pub returns-clause-stops : goal.returns-clause-stops
returns-clause-stops g c = λ some told.
    let answerer = g.A.AnswersFrames.answers (g.A.AnswersFrames.serving c.args.answerer.now).bounds in
    let machine = (g.A.AnswersFrames.machine g.D.Desk.tells (g.D.Desk.seen c.args.desk.now).reads c.args.answerer.now) in
    let next = answerer.next c.args.who.now c.args.frame.now machine in
    let reply = reply_to_frame answerer c.args.address c.args.who.now c.args.frame.now machine in
    stops_own g.A.AnswersFrames.by_folder g.D.Desk.tells (g.D.Desk.seen c.args.desk.now) (Turn answerer machine next reply)
    (λ told own. turn_stops answerer machine next (g.A.AnswersFrames.machine g.D.Desk.tells (g.D.Desk.seen c.answer.new.desk).reads c.answer.new.self)
    reply c.as_slice.result.now (c.answer.ensures.stops some told) c.in_ok-answer.ensures.next
    (c.as_slice.ensures.value ∙ reply_behind answerer c.args.address c.args.who.now c.args.frame.now machine _ _ c.in_ok-bytes.ensures (c.in_ok-answer.ensures.written own))
    (c.in_ok-answer.ensures.found some told) c.say.ensures.stops) told

pub returns-in_err-bytes-clause-room : goal.returns-in_err-bytes-clause-room
returns-in_err-bytes-clause-room g c = room_calm _ c.args.desk.now

pub returns-in-Ok-clause-room : goal.returns-in-Ok-clause-room
returns-in-Ok-clause-room g c = held_then c.answer.ensures.room (held_none _ _ c.say.ensures.others.parts c.say.ensures.others.found)

pub returns-clause-room : goal.returns-clause-room
returns-clause-room g c = held_then c.answer.ensures.room (held_none _ _ c.say.ensures.others.parts c.say.ensures.others.found)

pub returns-in-Ok-clause-follows : goal.returns-in-Ok-clause-follows
returns-in-Ok-clause-follows g c = λ some told.
    let answerer = g.A.AnswersFrames.answers (g.A.AnswersFrames.serving c.args.answerer.now).bounds in
    let machine = (g.A.AnswersFrames.machine g.D.Desk.tells (g.D.Desk.seen c.args.desk.now).reads c.args.answerer.now) in
    follows_behind (λ (reads : Image). answerer.follows machine (g.A.AnswersFrames.machine g.D.Desk.tells reads c.answer.new.self) (g.D.Desk.seen c.args.desk.now).reads reads)
    (c.in_ok-answer.ensures.follows some told) c.say.ensures.others.parts

pub returns-in_err-bytes-clause-alone : goal.returns-in_err-bytes-clause-alone
returns-in_err-bytes-clause-alone g c = λ none. OnlySaysAndNotes-none c.args.desk.now

pub returns-in_err-answer-clause-alone : goal.returns-in_err-answer-clause-alone
returns-in_err-answer-clause-alone g c = λ none. desk_behind (c.answer.ensures.alone none)

pub returns-in-Ok-clause-alone : goal.returns-in-Ok-clause-alone
returns-in-Ok-clause-alone g c = λ none. says_behind _ _ (c.answer.ensures.alone none) c.say.ensures.others c.say.ensures.stops

pub returns-clause-alone : goal.returns-clause-alone
returns-clause-alone g c = λ none. says_behind _ _ (c.answer.ensures.alone none) c.say.ensures.others c.say.ensures.stops

pub returns-in-Ok-clause-ready : goal.returns-in-Ok-clause-ready
returns-in-Ok-clause-ready g c =
    let others = c.say.ensures.others in
    ready_behind _ g.D.Desk.tells _ _ _ _ others.parts others.found c.in_ok-answer.ensures.ready

pub returns-clause-next : goal.returns-clause-next
returns-clause-next g c = λ is. ap (λ (reads : Image). g.A.AnswersFrames.machine g.D.Desk.tells reads c.answer.new.self) c.say.ensures.others.parts ∙ c.in_ok-answer.ensures.next

pub returns-clause-unsaid : goal.returns-clause-unsaid
returns-clause-unsaid g c = λ is.
    let others = c.say.ensures.others in
    (c.in_ok-answer.ensures.on, ready_behind _ g.D.Desk.tells _ _ _ _ others.parts others.found c.in_ok-answer.ensures.ready)

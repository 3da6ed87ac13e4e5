use Rattle.std.proofs.Common.{List, ℕ, ap, sym, subst, take}
use Rattle.std.proofs.lemmas.Result.{err_from_is_err_and}
use Rattle.journal_core.proofs.RoomLaws.{held_none, held_then}
use Rattle.ziti_outside.specs.Images.{Image}
use Rattle.session_mux.specs.declared.events.Event.{Event}
use Rattle.run_notes.specs.declared.notes.Notes.{Notes}
use Rattle.run_notes.specs.KnownSessions.{known_in}
use Rattle.serve_loop.specs.FollowedFolders.{FollowsEvents}
use Rattle.serve_loop.specs.Answerers.{seen_by}
use Rattle.serve_loop.specs.Pieces.{intake_of}
use Rattle.serve_loop.proofs.DeskLaws.{OnlySaysAndNotes-none, notes_behind, ready_behind, room_calm}
use Rattle.serve_loop.proofs.FailureLaws.{takes_none}
use Rattle.serve_loop.proofs.OwnReplyLaws.{more_by, same_said}
use Rattle.serve_loop.proofs.TurnLaws.{none_left}
use Rattle.serve_loop.proofs.UsedLaws.{all_so}
use Rattle.serve_loop.proofs.PieceLaws.{input_ends, input_starved, pieces_none}
use Rattle.serve_loop.proofs.IntakeLaws.{read_caused, starved_faultless}
use Rattle.serve_loop.proofs.pieces.serve_input.Goals as goal

pub returns-clause-answers : goal.returns-clause-answers
returns-clause-answers g c =
    let k = g.A.AnswersFrames.serving c.args.answerer.now in
    let answerer = g.A.AnswersFrames.answers k.bounds in
    let ends = c.in_ok-stop.ensures.ok.0 in
    let used : List ℕ = take c.args.most ends.takes.taken in
    let all = all_so c.args.form used c.serve_pieces.new.mux ends.answers.answered ends.answers.goes (none_left c.serve_pieces.new.mux c.in_ok-stop.stop.bad c.in_ok-stop.ensures.end) in (
      input_ends {now = record { failed = c.tell_ending.new.notes.failed; desk = seen_by g.A.AnswersFrames.by_folder g.D.Desk.tells (g.D.Desk.seen c.tell_ending.new.desk) }} c.in_ok-stop.stop.end c.in_ok-stop.stop.bad _ (ap (λ (reads : Image). g.A.AnswersFrames.machine g.D.Desk.tells reads c.serve_pieces.new.answerer) c.tell_ending.ensures.others.parts)
          ends c.in_ok-stop.ensures.end c.tell_ending.ensures.stops (same_said g.A.AnswersFrames.by_folder g.D.Desk.tells (g.D.Desk.seen c.serve_pieces.new.desk) (g.D.Desk.seen c.tell_ending.new.desk) c.tell_ending.ensures.others.replies) c.in_ok-tell_ending.ensures.status (more_by g.A.AnswersFrames.by_folder g.D.Desk.tells c.serve_pieces.new.notes.failed c.tell_ending.new.notes.failed _ (g.D.Desk.seen c.serve_pieces.new.desk) (g.D.Desk.seen c.tell_ending.new.desk) c.in_ok-tell_ending.ensures.noted),
      λ some told. subst (λ (es : List Event). FollowsEvents answerer es (known_in c.args.form) (g.A.AnswersFrames.machine g.D.Desk.tells (g.D.Desk.seen c.args.desk.now).reads c.args.answerer.now) (g.D.Desk.seen c.args.desk.now).reads (g.D.Desk.seen c.tell_ending.new.desk).reads) all
          (subst (λ (i : Image). FollowsEvents answerer ends.answers.answered (known_in c.args.form) (g.A.AnswersFrames.machine g.D.Desk.tells (g.D.Desk.seen c.args.desk.now).reads c.args.answerer.now) (g.D.Desk.seen c.args.desk.now).reads i) (sym c.tell_ending.ensures.others.parts) (c.in_ok-stop.ensures.ok.1 some told)),
    )

pub returns-clause-read : goal.returns-clause-read
returns-clause-read g c =
    read_caused _ _ c.in_ok-stop.stop.end _ _ _ c.in_ok-tell_ending.ensures.status c.in_ok-stop.ensures.fault

pub returns-in_err-mux-clause-answers : goal.returns-in_err-mux-clause-answers
returns-in_err-mux-clause-answers g c =
    let desk = c.args.desk.now in
    let p = err_from_is_err_and c.from_residual.result c.from_residual.ensures.1 in
    rw p.1 (rw p.2 (pieces_none (intake_of c.args.form c.args.most g.A.AnswersFrames.answers (g.A.AnswersFrames.serving c.args.answerer.now) (g.A.AnswersFrames.machine g.D.Desk.tells (g.D.Desk.seen c.args.desk.now).reads c.args.answerer.now) g.D.Desk.tells) (g.S.Source.left c.args.source.now) (g.D.Desk.stopped desk) (g.A.AnswersFrames.machine g.D.Desk.tells (g.D.Desk.seen c.args.desk.now).reads c.args.answerer.now) (record { failed = c.args.notes.now.failed; desk = seen_by g.A.AnswersFrames.by_folder g.D.Desk.tells (g.D.Desk.seen desk) })))

pub returns-in_err-sessions-clause-answers : goal.returns-in_err-sessions-clause-answers
returns-in_err-sessions-clause-answers g c =
    let desk = c.args.desk.now in
    let p = err_from_is_err_and c.from_residual-in_err-sessions.result c.from_residual-in_err-sessions.ensures.1 in
    rw p.1 (rw p.2 (pieces_none (intake_of c.args.form c.args.most g.A.AnswersFrames.answers (g.A.AnswersFrames.serving c.args.answerer.now) (g.A.AnswersFrames.machine g.D.Desk.tells (g.D.Desk.seen c.args.desk.now).reads c.args.answerer.now) g.D.Desk.tells) (g.S.Source.left c.args.source.now) (g.D.Desk.stopped desk) (g.A.AnswersFrames.machine g.D.Desk.tells (g.D.Desk.seen c.args.desk.now).reads c.args.answerer.now) (record { failed = c.args.notes.now.failed; desk = seen_by g.A.AnswersFrames.by_folder g.D.Desk.tells (g.D.Desk.seen desk) })))

pub returns-in_err-mux-clause-until_failure : goal.returns-in_err-mux-clause-until_failure
returns-in_err-mux-clause-until_failure g c = takes_none _

pub returns-in_err-sessions-clause-until_failure : goal.returns-in_err-sessions-clause-until_failure
returns-in_err-sessions-clause-until_failure g c = takes_none _

pub returns-in_err-stop-clause-answers : goal.returns-in_err-stop-clause-answers
returns-in_err-stop-clause-answers g c =
    let p = err_from_is_err_and c.from_residual-in_err-stop.result c.from_residual-in_err-stop.ensures.1 in
    rw p.1 (rw p.2 c.in_err-stop.ensures.cut)

pub returns-in_err-tell_ending-clause-answers : goal.returns-in_err-tell_ending-clause-answers
returns-in_err-tell_ending-clause-answers g c =
    let left = c.in_err-tell_ending.ensures.unnoted in
    let p = err_from_is_err_and c.from_residual-in_err-tell_ending.result c.from_residual-in_err-tell_ending.ensures.1 in
    rw p.1 (rw p.2 (input_starved {now = record { failed = c.tell_ending.new.notes.failed; desk = seen_by g.A.AnswersFrames.by_folder g.D.Desk.tells (g.D.Desk.seen c.tell_ending.new.desk) }} c.in_ok-stop.stop.end c.in_ok-stop.stop.bad (g.A.AnswersFrames.machine g.D.Desk.tells (g.D.Desk.seen c.tell_ending.new.desk).reads c.serve_pieces.new.answerer)
    c.in_ok-stop.ensures.ok.0 c.in_ok-stop.ensures.end c.tell_ending.ensures.stops c.in_err-tell_ending.ensures.memory (same_said g.A.AnswersFrames.by_folder g.D.Desk.tells (g.D.Desk.seen c.serve_pieces.new.desk) (g.D.Desk.seen c.tell_ending.new.desk) c.tell_ending.ensures.others.replies)
    (record { failed = ap (λ (x : Notes). x.failed) left.0; notes = left.1.notes; failed_notes = left.1.failed_notes })))

pub returns-clause-alone : goal.returns-clause-alone
returns-clause-alone g c = λ none. notes_behind (c.serve_pieces.ensures.alone none) c.tell_ending.ensures.others c.tell_ending.ensures.stops

pub returns-in_err-tell_ending-clause-alone : goal.returns-in_err-tell_ending-clause-alone
returns-in_err-tell_ending-clause-alone g c = λ none. notes_behind (c.serve_pieces.ensures.alone none) c.tell_ending.ensures.others c.tell_ending.ensures.stops

pub returns-in_err-mux-clause-room : goal.returns-in_err-mux-clause-room
returns-in_err-mux-clause-room g c = room_calm _ c.args.desk.now

pub returns-in_err-sessions-clause-room : goal.returns-in_err-sessions-clause-room
returns-in_err-sessions-clause-room g c = room_calm _ c.args.desk.now

pub returns-clause-room : goal.returns-clause-room
returns-clause-room g c = held_then c.serve_pieces.ensures.room (held_none _ _ c.tell_ending.ensures.others.parts c.tell_ending.ensures.others.found)

pub returns-in_err-tell_ending-clause-room : goal.returns-in_err-tell_ending-clause-room
returns-in_err-tell_ending-clause-room g c = held_then c.serve_pieces.ensures.room (held_none _ _ c.tell_ending.ensures.others.parts c.tell_ending.ensures.others.found)

pub returns-clause-ready : goal.returns-clause-ready
returns-clause-ready g c =
    let others = c.tell_ending.ensures.others in
    ready_behind _ g.D.Desk.tells _ _ _ _ others.parts others.found c.in_ok-stop.ensures.ready

pub returns-in_err-mux-clause-alone : goal.returns-in_err-mux-clause-alone
returns-in_err-mux-clause-alone g c = λ none. OnlySaysAndNotes-none c.args.desk.now

pub returns-in_err-sessions-clause-alone : goal.returns-in_err-sessions-clause-alone
returns-in_err-sessions-clause-alone g c = λ none. OnlySaysAndNotes-none c.args.desk.now

pub returns-in_err-tell_ending-clause-faultless : goal.returns-in_err-tell_ending-clause-faultless
returns-in_err-tell_ending-clause-faultless g c =
    let p = err_from_is_err_and c.from_residual-in_err-tell_ending.result c.from_residual-in_err-tell_ending.ensures.1 in
    rw p.1 (starved_faultless c.in_ok-stop.stop.end c.in_ok-stop.stop.bad c.serve_pieces.new.mux _ _ _ _ c.in_ok-stop.ensures.end c.in_ok-stop.ensures.last c.in_err-tell_ending.ensures.memory c.in_ok-stop.ensures.fault)

pub returns-in_err-stop-clause-unsaid : goal.returns-in_err-stop-clause-unsaid
returns-in_err-stop-clause-unsaid g c =
    let p = err_from_is_err_and c.from_residual-in_err-stop.result c.from_residual-in_err-stop.ensures.1 in
    rw p.1 (rw p.2 c.in_err-stop.ensures.unsaid)

use Rattle.std.proofs.Common.{◌≡◌, length, IsTrue}
use Rattle.ziti_outside.specs.Moments.{Elapses}
use Rattle.journal_core.specs.Room.{HoldsRoom}
use Rattle.session_mux.specs.Completion.{events_of}
use Rattle.serve_loop.specs.Answering.{progress_at}
use Rattle.serve_loop.specs.Answerers.{GoesOn, IsReadyOn, seen_by}
use Rattle.serve_loop.specs.LeftAlone.{SpeaksAlone}
use Rattle.serve_loop.specs.FollowedFolders.{FollowsEvents}
use Rattle.serve_loop.specs.Turns.{Answers, StopsAlong}
use Rattle.serve_loop.proofs.serving.serve_events.Given as goal

-- the first events were answered, and the others come from where the sessions stand; the folder of the core alone stays as it was, and
-- another one follows the machine along the answered events; no slot of it grew past its bound, and a stop finds what their turns leave
abbrev pub invariant-events : goal.invariant-events
invariant-events g l = record {
  on : GoesOn (g.A.AnswersFrames.serving l.fn.answerer) (g.A.AnswersFrames.serving l.answerer);
  ready : IsReadyOn g.A.AnswersFrames.needs g.D.Desk.tells g.D.Desk.seen g.D.Desk.stopped l.desk l.answerer;
  answers : Answers l.form (g.A.AnswersFrames.answers (g.A.AnswersFrames.serving l.fn.answerer).bounds) (progress_at l.fn.sessions (g.A.AnswersFrames.machine g.D.Desk.tells (g.D.Desk.seen l.fn.desk).reads l.fn.answerer) l.fn.mux l.fn.notes.failed (seen_by g.A.AnswersFrames.by_folder g.D.Desk.tells (g.D.Desk.seen l.fn.desk)))
      (progress_at l.sessions (g.A.AnswersFrames.machine g.D.Desk.tells (g.D.Desk.seen l.desk).reads l.answerer) l.mux l.notes.failed (seen_by g.A.AnswersFrames.by_folder g.D.Desk.tells (g.D.Desk.seen l.desk)));
  follows : IsTrue (g.A.AnswersFrames.serving l.fn.answerer).folder → IsTrue g.D.Desk.tells
      → FollowsEvents (g.A.AnswersFrames.answers (g.A.AnswersFrames.serving l.fn.answerer).bounds) answers.answered l.fn.sessions (g.A.AnswersFrames.machine g.D.Desk.tells (g.D.Desk.seen l.fn.desk).reads l.fn.answerer) (g.D.Desk.seen l.fn.desk).reads (g.D.Desk.seen l.desk).reads;
  calm : (g.D.Desk.seen l.desk).say_faults ≡ (g.D.Desk.seen l.fn.desk).say_faults;
  calm_disk : (g.D.Desk.seen l.desk).disk_faults ≡ (g.D.Desk.seen l.fn.desk).disk_faults;
  alone : SpeaksAlone g.D.Desk.seen g.D.Desk.stopped l.fn.desk l.desk (g.A.AnswersFrames.serving l.fn.answerer);
  room : HoldsRoom g.D.Desk.tells (g.A.AnswersFrames.serving l.fn.answerer).slot g.D.Desk.seen g.D.Desk.stopped l.fn.desk l.desk;
  stops : IsTrue (g.A.AnswersFrames.serving l.fn.answerer).folder → IsTrue g.D.Desk.tells → Elapses (g.D.Desk.stopped l.fn.desk) (g.D.Desk.stopped l.desk)
      (StopsAlong l.form (g.A.AnswersFrames.answers (g.A.AnswersFrames.serving l.fn.answerer).bounds) l.fn.sessions (g.A.AnswersFrames.machine g.D.Desk.tells (g.D.Desk.seen l.fn.desk).reads l.fn.answerer) l.fn.mux (seen_by g.A.AnswersFrames.by_folder g.D.Desk.tells (g.D.Desk.seen l.fn.desk)).said);
}

abbrev pub decreases-events : goal.decreases-events
decreases-events g l = length (events_of l.mux)

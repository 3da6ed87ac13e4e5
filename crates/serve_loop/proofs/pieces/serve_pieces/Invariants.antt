use Rattle.std.proofs.Common.{◌+◌, ◌-◌, ◌≡◌, ◌≤◌, IsTrue}
use Rattle.journal_core.specs.Room.{HoldsRoom}
use Rattle.run_notes.specs.Endings.{IsAllGiven}
use Rattle.serve_loop.specs.Answering.{progress_at}
use Rattle.serve_loop.specs.Answerers.{GoesOn, IsReadyOn, seen_by}
use Rattle.serve_loop.specs.LeftAlone.{SpeaksAlone}
use Rattle.run_notes.specs.KnownSessions.{known_in}
use Rattle.serve_loop.specs.FollowedFolders.{FollowsEvents}
use Rattle.serve_loop.specs.Pieces.{intake_of, passage_of, AnswersPieces}
use Rattle.serve_loop.proofs.pieces.serve_pieces.Given as goal

-- what was taken since the call began is what the source gave, all its used events were answered, a folder follows the machine along them,
-- they do not decide the input, and no slot grew past its bound
abbrev pub invariant-pieces : goal.invariant-pieces
invariant-pieces g l = record {
  on : GoesOn (g.A.AnswersFrames.serving l.fn.answerer) (g.A.AnswersFrames.serving l.answerer);
  ready : IsReadyOn g.A.AnswersFrames.needs g.D.Desk.tells g.D.Desk.seen g.D.Desk.stopped l.desk l.answerer;
  answers : AnswersPieces (intake_of l.form l.most g.A.AnswersFrames.answers (g.A.AnswersFrames.serving l.fn.answerer) (g.A.AnswersFrames.machine g.D.Desk.tells (g.D.Desk.seen l.fn.desk).reads l.fn.answerer) g.D.Desk.tells)
      (passage_of (g.S.Source.left l.fn.source) (g.S.Source.left l.source) l.fn.notes.failed (seen_by g.A.AnswersFrames.by_folder g.D.Desk.tells (g.D.Desk.seen l.fn.desk)) (g.D.Desk.stopped l.fn.desk) (g.D.Desk.stopped l.desk))
      (progress_at l.sessions (g.A.AnswersFrames.machine g.D.Desk.tells (g.D.Desk.seen l.desk).reads l.answerer) l.mux l.notes.failed (seen_by g.A.AnswersFrames.by_folder g.D.Desk.tells (g.D.Desk.seen l.desk))) l.taken;
  follows : IsTrue (g.A.AnswersFrames.serving l.fn.answerer).folder → IsTrue g.D.Desk.tells
      → FollowsEvents (g.A.AnswersFrames.answers (g.A.AnswersFrames.serving l.fn.answerer).bounds) answers.answers.answered (known_in l.form) (g.A.AnswersFrames.machine g.D.Desk.tells (g.D.Desk.seen l.fn.desk).reads l.fn.answerer) (g.D.Desk.seen l.fn.desk).reads (g.D.Desk.seen l.desk).reads;
  given : IsAllGiven l.mux;
  few : l.taken ≤ l.most + 65536;
  calm : g.S.Source.faults l.source ≡ g.S.Source.faults l.fn.source;
  calm_say : (g.D.Desk.seen l.desk).say_faults ≡ (g.D.Desk.seen l.fn.desk).say_faults;
  calm_disk : (g.D.Desk.seen l.desk).disk_faults ≡ (g.D.Desk.seen l.fn.desk).disk_faults;
  alone : SpeaksAlone g.D.Desk.seen g.D.Desk.stopped l.fn.desk l.desk (g.A.AnswersFrames.serving l.fn.answerer);
  room : HoldsRoom g.D.Desk.tells (g.A.AnswersFrames.serving l.fn.answerer).slot g.D.Desk.seen g.D.Desk.stopped l.fn.desk l.desk;
}

abbrev pub decreases-pieces : goal.decreases-pieces
decreases-pieces g l = l.most + 1 - l.taken

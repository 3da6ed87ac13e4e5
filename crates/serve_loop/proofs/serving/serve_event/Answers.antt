use Rattle.std.specs.Prelude.{OnOk, IfErr, IsTrue}
use Rattle.std.proofs.Common.{◌≡◌, ℕ, List, [], refl, sym, ap, subst}
use Rattle.session_mux.specs.declared.events.Event.{Event}
use Rattle.run_notes.specs.declared.ends.Cut.TheVariants.{Unsaid}
use Rattle.run_notes.specs.Notes.{event_lines}
use Rattle.run_notes.specs.NotesSoFar.{NotesMore}
use Rattle.serve_loop.specs.FollowedFolders.{FollowsEvent}
use Rattle.serve_loop.specs.KnownReplies.{machine_after}
use Rattle.serve_loop.proofs.DeskLaws.{OnlySaysAndNotes-none, notes_alone}
use Rattle.serve_loop.proofs.TurnLaws.{arrived_noted}
use Rattle.serve_loop.proofs.serving.serve_event.Goals as goal

pub returns-in-Opened-clause-alone : goal.returns-in-Opened-clause-alone
returns-in-Opened-clause-alone g c = λ none. OnlySaysAndNotes-none c.args.desk.now

pub returns-in-Opened-clause-follows : goal.returns-in-Opened-clause-follows
returns-in-Opened-clause-follows g c = λ some told.
    let old = g.A.AnswersFrames.serving c.args.answerer.now in
    subst (λ (e : Event). FollowsEvent (g.A.AnswersFrames.answers old.bounds) e c.args.sessions.now (g.A.AnswersFrames.machine g.D.Desk.tells (g.D.Desk.seen c.args.desk.now).reads c.args.answerer.now) (g.D.Desk.seen c.args.desk.now).reads (g.D.Desk.seen c.args.desk.now).reads) (sym c.in-Opened.is) refl

pub returns-in-Closed-clause-alone : goal.returns-in-Closed-clause-alone
returns-in-Closed-clause-alone g c = λ none. OnlySaysAndNotes-none c.args.desk.now

pub returns-in-Closed-clause-follows : goal.returns-in-Closed-clause-follows
returns-in-Closed-clause-follows g c = λ some told.
    let old = g.A.AnswersFrames.serving c.args.answerer.now in
    subst (λ (e : Event). FollowsEvent (g.A.AnswersFrames.answers old.bounds) e c.args.sessions.now (g.A.AnswersFrames.machine g.D.Desk.tells (g.D.Desk.seen c.args.desk.now).reads c.args.answerer.now) (g.D.Desk.seen c.args.desk.now).reads (g.D.Desk.seen c.args.desk.now).reads) (sym c.in-Closed.is) refl

pub returns-in_err-note_fault-in-Ended-clause-alone : goal.returns-in_err-note_fault-in-Ended-clause-alone
returns-in_err-note_fault-in-Ended-clause-alone g c = λ none. notes_alone c.note_fault.ensures.others c.note_fault.ensures.stops

pub returns-in_ok-note_fault-in-Ended-clause-alone : goal.returns-in_ok-note_fault-in-Ended-clause-alone
returns-in_ok-note_fault-in-Ended-clause-alone g c = λ none. notes_alone c.note_fault.ensures.others c.note_fault.ensures.stops

pub returns-in_ok-note_fault-in-Ended-clause-follows : goal.returns-in_ok-note_fault-in-Ended-clause-follows
returns-in_ok-note_fault-in-Ended-clause-follows g c = λ some told.
    let old = g.A.AnswersFrames.serving c.args.answerer.now in
    subst (λ (e : Event). FollowsEvent (g.A.AnswersFrames.answers old.bounds) e c.args.sessions.now (g.A.AnswersFrames.machine g.D.Desk.tells (g.D.Desk.seen c.args.desk.now).reads c.args.answerer.now) (g.D.Desk.seen c.args.desk.now).reads (g.D.Desk.seen c.note_fault.new.desk).reads) (sym c.in-Ended.is) c.note_fault.ensures.others.parts

pub returns-in-Arrived-clause-alone : goal.returns-in-Arrived-clause-alone
returns-in-Arrived-clause-alone g c = c.serve_arrived.ensures.alone

pub returns-in-Arrived-clause-follows : goal.returns-in-Arrived-clause-follows
returns-in-Arrived-clause-follows g c =
    let answerer = g.A.AnswersFrames.answers (g.A.AnswersFrames.serving c.args.answerer.now).bounds in
    let old = g.A.AnswersFrames.serving c.args.answerer.now in
    subst (λ (e : Event). OnOk c.serve_arrived.result (IsTrue old.folder → IsTrue g.D.Desk.tells
    → FollowsEvent answerer e c.args.sessions.now (g.A.AnswersFrames.machine g.D.Desk.tells (g.D.Desk.seen c.args.desk.now).reads c.args.answerer.now) (g.D.Desk.seen c.args.desk.now).reads (g.D.Desk.seen c.serve_arrived.new.desk).reads)) (sym c.in-Arrived.is) c.serve_arrived.ensures.follows

pub returns-in-Arrived-clause-noted : goal.returns-in-Arrived-clause-noted
returns-in-Arrived-clause-noted g c =
    let notes = c.serve_arrived.ensures.notes in
    let old = g.D.Desk.seen c.args.desk.now in
    let new = g.D.Desk.seen c.serve_arrived.new.desk in
    let failed = c.args.notes.now.failed in
    let none : event_lines c.args.event ≡ [] = ap event_lines c.in-Arrived.is in
    subst (λ (l : List ℕ). OnOk c.serve_arrived.result (NotesMore failed failed l old new)) (sym none) (arrived_noted c.serve_arrived.result failed old new notes.notes notes.failed_notes)

pub returns-in-Arrived-clause-next : goal.returns-in-Arrived-clause-next
returns-in-Arrived-clause-next g c =
    let old = g.A.AnswersFrames.serving c.args.answerer.now in
    let new = g.A.AnswersFrames.serving c.serve_arrived.new.answerer in
    subst (λ (e : Event). IfErr c.serve_arrived.result (λ c1. c1 ≡ Unsaid → (g.A.AnswersFrames.machine g.D.Desk.tells (g.D.Desk.seen c.serve_arrived.new.desk).reads c.serve_arrived.new.answerer) ≡ machine_after (g.A.AnswersFrames.answers old.bounds) e c.args.sessions.now (g.A.AnswersFrames.machine g.D.Desk.tells (g.D.Desk.seen c.args.desk.now).reads c.args.answerer.now))) (sym c.in-Arrived.is) c.serve_arrived.ensures.next

pub returns-in-Arrived-clause-unsaid : goal.returns-in-Arrived-clause-unsaid
returns-in-Arrived-clause-unsaid g c = c.serve_arrived.ensures.unsaid

use Rattle.std.proofs.Common.{ℕ, Err, refl, ap, sym, subst, ◌∙◌}
use Rattle.std.proofs.lemmas.Result.{err_from_is_err_and}
use Rattle.ziti_outside.proofs.MomentLaws.{Elapses-none}
use Rattle.session_mux.specs.declared.events.MuxFault.{MuxFault}
use Rattle.session_mux.specs.MuxSteps.{GivesFault}
use Rattle.run_notes.specs.declared.notes.Notes.{Notes}
use Rattle.serve_loop.specs.Answerers.{seen_by}
use Rattle.serve_loop.specs.Answering.{progress_at}
use Rattle.run_notes.specs.Endings.{IsStuckAt}
use Rattle.serve_loop.proofs.DeskLaws.{GoesOn-then, OnlySaysAndNotes-none, OnlySaysAndNotes-then, room_calm, room_more}
use Rattle.serve_loop.proofs.FollowLaws.{follows_more}
use Rattle.serve_loop.proofs.OwnReplyLaws.{more_by}
use Rattle.serve_loop.proofs.RunStopLaws.{stops_more}
use Rattle.serve_loop.proofs.TurnLaws.{answers_start, answers_more, answers_still, goes_on, gives_none, fewer_events, all_given, stuck_at, cut_answers, starved_answers}
use Rattle.serve_loop.proofs.serving.serve_events.Goals as goal

pub events-init : goal.events-init
events-init g c =
    let k = g.A.AnswersFrames.serving c.args.answerer.now in
    let desk = c.args.desk.now in
    record {
      on = record { able = c.requires.able; bounds = refl; slot = refl; kind = refl };
      ready = c.requires.ready;
      answers = answers_start c.args.form (g.A.AnswersFrames.answers k.bounds) (progress_at c.args.sessions.now (g.A.AnswersFrames.machine g.D.Desk.tells (g.D.Desk.seen c.args.desk.now).reads c.args.answerer.now) c.args.mux.now c.args.notes.now.failed (seen_by g.A.AnswersFrames.by_folder g.D.Desk.tells (g.D.Desk.seen desk)));
      follows = λ some told. refl;
      calm = refl;
      calm_disk = refl;
      alone = λ none. OnlySaysAndNotes-none desk;
      room = room_calm _ desk;
      stops = λ some told. Elapses-none _ _;
    }

pub events-smaller : goal.events-smaller
events-smaller g c =
    let old = c.events.mux in
    let new = c.next.new.self in
    fewer_events old new c.in-Ok-Some.event (goes_on old new _ c.in-Ok-Some.event c.in-Ok-Some.field-0-is c.in-Ok-Some.ensures.some)

pub events-preserved : goal.events-preserved
events-preserved g c =
    let goes = goes_on c.events.mux c.next.new.self _ c.in-Ok-Some.event c.in-Ok-Some.field-0-is c.in-Ok-Some.ensures.some in
    let held = c.events.invariant in
    let turn = c.in_ok-serve_event-in-Ok-Some.ensures in
    let first = g.A.AnswersFrames.serving c.args.answerer.now in
    let mid = g.A.AnswersFrames.serving c.events.answerer in
    record {
      on = GoesOn-then held.on turn.on;
      ready = turn.ready;
      answers = answers_more (ap g.A.AnswersFrames.answers held.on.bounds) held.answers goes turn.ok (more_by g.A.AnswersFrames.by_folder g.D.Desk.tells c.events.notes.failed c.serve_event.new.notes.failed _ (g.D.Desk.seen c.events.desk) (g.D.Desk.seen c.serve_event.new.desk) turn.noted);
      follows = λ some told.
          follows_more held.answers.answered c.in-Ok-Some.event c.args.sessions.now (g.A.AnswersFrames.machine g.D.Desk.tells (g.D.Desk.seen c.args.desk.now).reads c.args.answerer.now) (g.D.Desk.seen c.args.desk.now).reads (g.D.Desk.seen c.events.desk).reads (g.D.Desk.seen c.serve_event.new.desk).reads (ap g.A.AnswersFrames.answers held.on.bounds) held.answers.known_is held.answers.machine_is (held.follows some told) (turn.follows (held.on.kind ∙ some) told);
      calm = turn.say_cause.calm ∙ held.calm;
      calm_disk = turn.disk_cause.calm ∙ held.calm_disk;
      alone = λ none. OnlySaysAndNotes-then (held.alone none) (c.serve_event.ensures.alone (held.on.kind ∙ none));
      room = room_more first.slot mid.slot held.on.slot held.room c.serve_event.ensures.room;
      stops = λ some told. stops_more (ap g.A.AnswersFrames.answers held.on.bounds) held.answers goes (held.stops some told) (c.serve_event.ensures.stops (held.on.kind ∙ some) told);
    }

pub returns-in_err-serve_event-in-Ok-Some-clause-cut : goal.returns-in_err-serve_event-in-Ok-Some-clause-cut
returns-in_err-serve_event-in-Ok-Some-clause-cut g c =
    let goes = goes_on c.events.mux c.next.new.self _ c.in-Ok-Some.event c.in-Ok-Some.field-0-is c.in-Ok-Some.ensures.some in
    let p = err_from_is_err_and c.from_residual.result c.from_residual.ensures.1 in
    let held = c.events.invariant in
    let cut = c.in_err-serve_event-in-Ok-Some.ensures in
    rw p.1 (rw p.2 (cut_answers {now = record { failed = c.serve_event.new.notes.failed; desk = seen_by g.A.AnswersFrames.by_folder g.D.Desk.tells (g.D.Desk.seen c.serve_event.new.desk) }} (ap g.A.AnswersFrames.answers held.on.bounds) held.answers goes cut.cut cut.next (record { failed = ap (λ (x : Notes). x.failed) cut.unnoted.0; notes = cut.unnoted.1.notes; failed_notes = cut.unnoted.1.failed_notes })))

pub returns-in-Ok-None-clause-end : goal.returns-in-Ok-None-clause-end
returns-in-Ok-None-clause-end g c =
    let old = c.events.mux in
    let new = c.next.new.self in
    all_given old new (gives_none old new _ c.in-Ok-None.field-0-is c.in-Ok-None.ensures.some)

pub returns-in-Err-BadRecord-clause-end : goal.returns-in-Err-BadRecord-clause-end
returns-in-Err-BadRecord-clause-end g c =
    let old = c.events.mux in
    let new = c.next.new.self in
    let stuck = subst (λ (e : MuxFault). GivesFault old new e) c.in-Err-BadRecord.field-0-is c.in-Err-BadRecord.ensures.fault in
    subst (λ (n : ℕ). IsStuckAt new n) (sym c.in-Err-BadRecord.at-is) (stuck_at old new c.in-Err-BadRecord.at stuck.0 stuck.1)

pub returns-in-Err-NoMemory-clause-cut : goal.returns-in-Err-NoMemory-clause-cut
returns-in-Err-NoMemory-clause-cut g c = starved_answers (g.A.AnswersFrames.machine g.D.Desk.tells (g.D.Desk.seen c.events.desk).reads c.events.answerer) c.events.invariant.answers (c.next.ensures.memory (c.in-Err-NoMemory.is ∙ ap Err c.in-Err-NoMemory.field-0-is))

pub returns-in_err-serve_event-in-Ok-Some-clause-stops : goal.returns-in_err-serve_event-in-Ok-Some-clause-stops
returns-in_err-serve_event-in-Ok-Some-clause-stops g c = λ some told.
    let goes = goes_on c.events.mux c.next.new.self _ c.in-Ok-Some.event c.in-Ok-Some.field-0-is c.in-Ok-Some.ensures.some in
    let held = c.events.invariant in
    stops_more (ap g.A.AnswersFrames.answers held.on.bounds) held.answers goes (held.stops some told) (c.serve_event.ensures.stops (held.on.kind ∙ some) told)

pub returns-in_err-serve_event-in-Ok-Some-clause-room : goal.returns-in_err-serve_event-in-Ok-Some-clause-room
returns-in_err-serve_event-in-Ok-Some-clause-room g c =
    let held = c.events.invariant in
    room_more (g.A.AnswersFrames.serving c.args.answerer.now).slot (g.A.AnswersFrames.serving c.events.answerer).slot held.on.slot held.room c.serve_event.ensures.room

pub returns-in-Ok-None-clause-ok : goal.returns-in-Ok-None-clause-ok
returns-in-Ok-None-clause-ok g c =
    let gives = gives_none c.events.mux c.next.new.self _ c.in-Ok-None.field-0-is c.in-Ok-None.ensures.some in
    (answers_still c.events.invariant.answers gives.goes, c.events.invariant.follows)

pub returns-in-Err-BadRecord-clause-ok : goal.returns-in-Err-BadRecord-clause-ok
returns-in-Err-BadRecord-clause-ok g c =
    let stuck = subst (λ (e : MuxFault). GivesFault c.events.mux c.next.new.self e) c.in-Err-BadRecord.field-0-is c.in-Err-BadRecord.ensures.fault in
    (answers_still c.events.invariant.answers stuck.0, c.events.invariant.follows)

pub returns-in_err-serve_event-in-Ok-Some-clause-alone : goal.returns-in_err-serve_event-in-Ok-Some-clause-alone
returns-in_err-serve_event-in-Ok-Some-clause-alone g c = λ none.
    let held = c.events.invariant in OnlySaysAndNotes-then (held.alone none) (c.serve_event.ensures.alone (held.on.kind ∙ none))

pub returns-in_err-serve_event-in-Ok-Some-clause-unsaid : goal.returns-in_err-serve_event-in-Ok-Some-clause-unsaid
returns-in_err-serve_event-in-Ok-Some-clause-unsaid g c =
    let p = err_from_is_err_and c.from_residual.result c.from_residual.ensures.1 in
    let cut = c.in_err-serve_event-in-Ok-Some.ensures in
    rw p.1 (rw p.2 (λ is. let turn = cut.unsaid is in (GoesOn-then c.events.invariant.on turn.0, turn.1)))

use Rattle.std.proofs.Common.{◌∙◌, ◌+◌, ◌≡◌, ◌<◌, ◌≤◌, List, ℕ, [], length, take, ◌-◌, inr, refl, sym, ap, subst, append-nil, arith}
use Rattle.std.proofs.lemmas.Result.{err_from_is_err_and}
use Rattle.std.proofs.lemmas.List.{length-take, length-take-le}
use Rattle.ziti_outside.specs.Told.{Gave}
use Rattle.ziti_outside.proofs.Moves.{Gave-then, Gave-kept}
use Rattle.run_notes.specs.Endings.{IsAllGiven}
use Rattle.run_notes.specs.KnownSessions.{known_in}
use Rattle.serve_loop.specs.Answerers.{seen_by}
use Rattle.serve_loop.specs.Answering.{progress_at}
use Rattle.serve_loop.specs.Pieces.{intake_of}
use Rattle.serve_loop.proofs.DeskLaws.{GoesOn-then, OnlySaysAndNotes-none, OnlySaysAndNotes-then, room_calm, room_more}
use Rattle.serve_loop.proofs.FailureLaws.{takes_more, takes_none, takes_so_far}
use Rattle.serve_loop.proofs.FollowLaws.{follows_then}
use Rattle.serve_loop.proofs.PieceLaws.{came_few, fed_cut, fed_decided, fed_more, fed_starved, more_given, pieces_end, pieces_fed, pieces_none, pieces_start, short_piece, start_given}
use Rattle.serve_loop.proofs.pieces.serve_pieces.Goals as goal

pub pieces-init : goal.pieces-init
pieces-init g c =
    let k = g.A.AnswersFrames.serving c.args.answerer.now in
    let desk = c.args.desk.now in
    record {
      on = record { able = c.requires.able; bounds = refl; slot = refl; kind = refl };
      ready = c.requires.ready;
      answers = pieces_start (intake_of c.args.form c.args.most g.A.AnswersFrames.answers k (g.A.AnswersFrames.machine g.D.Desk.tells (g.D.Desk.seen c.args.desk.now).reads c.args.answerer.now) g.D.Desk.tells) (g.S.Source.left c.args.source.now) (g.D.Desk.stopped desk)
          (progress_at c.args.sessions.now (g.A.AnswersFrames.machine g.D.Desk.tells (g.D.Desk.seen c.args.desk.now).reads c.args.answerer.now) c.args.mux.now c.args.notes.now.failed (seen_by g.A.AnswersFrames.by_folder g.D.Desk.tells (g.D.Desk.seen desk))) c.requires.known refl c.requires.start;
      follows = λ some told. refl;
      given = subst IsAllGiven (sym c.requires.start) (start_given c.args.form);
      few = omega arith;
      calm = refl;
      calm_say = refl;
      calm_disk = refl;
      alone = λ none. OnlySaysAndNotes-none desk;
      room = room_calm _ desk;
    }

pub pieces-preserved : goal.pieces-preserved
pieces-preserved g c =
    let held = c.pieces.invariant in
    let first = g.A.AnswersFrames.serving c.args.answerer.now in
    let mid = g.A.AnswersFrames.serving c.pieces.answerer in
    let e = c.in_ok-bad-in-Ok.ensures in
    let piece : List ℕ = take c.in-Ok.count c.take.new.buf in
    let long : length piece ≡ c.in-Ok.count = length-take-le c.in-Ok.count c.take.new.buf c.in-Ok.ensures.bytes.within in
    let few = short_piece c.in-Ok.count c.take.new.buf (omega (arith, c.in_ok-room.ensures, c.pieces.auto.piece, c.take.auto.buf)) in
    let within : c.pieces.taken ≤ c.args.most = omega (arith, c.pieces-test.true) in
    let came = pieces_fed (take c.in-Ok.count c.take.new.buf) held.answers held.given.none within c.in-Ok.ensures.bytes.bytes few c.first_bytes.ensures c.in_ok-feed-in-Ok.ensures.ok in
    let now = fed_more c.in_ok-bad-in-Ok.bad came (ap g.A.AnswersFrames.answers held.on.bounds) e.ok.0 (λ some told. c.serve_events.ensures.stops (held.on.kind ∙ some) told) e.end (sym c.is_decided.ensures ∙ c.if-is_decided.false) (ap (λ (n : ℕ). c.pieces.taken + n) long) in
    record {
      on = GoesOn-then held.on e.on;
      ready = e.ready;
      answers = now;
      follows = λ some told.
          follows_then held.answers.answers.answered e.ok.0.answered (known_in c.args.form) (g.A.AnswersFrames.machine g.D.Desk.tells (g.D.Desk.seen c.args.desk.now).reads c.args.answerer.now) (g.D.Desk.seen c.args.desk.now).reads (g.D.Desk.seen c.pieces.desk).reads
          (g.D.Desk.seen c.serve_events.new.desk).reads (ap g.A.AnswersFrames.answers held.on.bounds) held.answers.answers.known_is held.answers.answers.machine_is (held.follows some told) (e.ok.1 (held.on.kind ∙ some) told);
      given = more_given c.in_ok-bad-in-Ok.bad now e.end (sym c.is_decided.ensures ∙ c.if-is_decided.false);
      few = omega (arith, c.pieces-test.true, few, long);
      calm = c.in-Ok.ensures.cause.calm ∙ held.calm;
      calm_say = e.say_cause.calm ∙ held.calm_say;
      calm_disk = e.disk_cause.calm ∙ held.calm_disk;
      alone = λ none. OnlySaysAndNotes-then (held.alone none) (c.serve_events.ensures.alone (held.on.kind ∙ none));
      room = room_more first.slot mid.slot held.on.slot held.room c.serve_events.ensures.room;
    }

pub feed-requires : goal.feed-requires
feed-requires g c =
    let held = c.pieces.invariant in
    let piece : List ℕ = take c.in-Ok.count c.take.new.buf in
    let few = short_piece c.in-Ok.count c.take.new.buf (omega (arith, c.in_ok-room.ensures, c.pieces.auto.piece, c.take.auto.buf)) in
    let came : c.pieces.mux.before + length c.pieces.mux.input ≤ c.pieces.taken = came_few held.answers in
    let part : length c.first_bytes.result.now ≤ length piece = omega (arith, ap length c.first_bytes.ensures, length-take (c.args.most - c.pieces.taken) piece) in
    omega (arith, came, part, few, c.pieces-test.true, c.requires.most)

pub returns-in_err-room-clause-cut : goal.returns-in_err-room-clause-cut
returns-in_err-room-clause-cut g c =
    let desk = c.args.desk.now in
    let p = err_from_is_err_and c.from_residual.result c.from_residual.ensures.1 in
    rw p.1 (rw p.2 (pieces_none (intake_of c.args.form c.args.most g.A.AnswersFrames.answers (g.A.AnswersFrames.serving c.args.answerer.now) (g.A.AnswersFrames.machine g.D.Desk.tells (g.D.Desk.seen c.args.desk.now).reads c.args.answerer.now) g.D.Desk.tells) (g.S.Source.left c.args.source.now) (g.D.Desk.stopped desk) (g.A.AnswersFrames.machine g.D.Desk.tells (g.D.Desk.seen c.args.desk.now).reads c.args.answerer.now) (record { failed = c.args.notes.now.failed; desk = seen_by g.A.AnswersFrames.by_folder g.D.Desk.tells (g.D.Desk.seen desk) })))

pub returns-in_err-room-clause-until_failure : goal.returns-in_err-room-clause-until_failure
returns-in_err-room-clause-until_failure g c = takes_none _

pub returns-in-Err-clause-ok : goal.returns-in-Err-clause-ok
returns-in-Err-clause-ok g c =
    let held = c.pieces.invariant in
    let taken : List ℕ = held.answers.takes.taken in
    let few : length taken ≤ c.args.most = omega (arith, held.answers.counted, c.pieces-test.true) in (
      pieces_end held.answers (Gave-kept _ _ _ taken held.answers.takes.gave c.in-Err.ensures.bytes.bytes) few,
      held.follows,
    )

pub returns-in-Err-clause-until_failure : goal.returns-in-Err-clause-until_failure
returns-in-Err-clause-until_failure g c =
    let held = c.pieces.invariant in
    record { until = c.pieces.source; taken = held.answers.takes.taken; gave = held.answers.takes.gave; calm = held.calm; nothing_more = c.in-Err.ensures.bytes.bytes }

pub returns-in-Ok-eq0-clause-ok : goal.returns-in-Ok-eq0-clause-ok
returns-in-Ok-eq0-clause-ok g c =
    let held = c.pieces.invariant in
    let left = g.S.Source.left in
    let taken : List ℕ = held.answers.takes.taken in
    let none : Gave (left c.pieces.source) (left c.take.new.self) [] = subst (λ (n : ℕ). Gave (left c.pieces.source) (left c.take.new.self) (take n c.take.new.buf)) c.in-Ok-eq0.field-0-test c.in-Ok-eq0.ensures.bytes.bytes in
    let few : length taken ≤ c.args.most = omega (arith, held.answers.counted, c.pieces-test.true) in (
      pieces_end held.answers
          (subst (λ (bytes : List ℕ). Gave (left c.args.source.now) (left c.take.new.self) bytes) (append-nil taken) (Gave-then _ _ _ taken [] held.answers.takes.gave none))
          (inr (few, c.in-Ok-eq0.ensures.bytes.end c.in-Ok-eq0.field-0-test)),
      held.follows,
    )

pub returns-in-Ok-eq0-clause-until_failure : goal.returns-in-Ok-eq0-clause-until_failure
returns-in-Ok-eq0-clause-until_failure g c =
    let held = c.pieces.invariant in
    takes_more _ c.pieces.source _ held.answers.takes.taken (take c.in-Ok-eq0.field-0 c.take.new.buf) held.answers.takes.gave c.in-Ok-eq0.ensures.bytes.bytes c.in-Ok-eq0.ensures.cause.calm held.calm

pub returns-in_err-feed-in-Ok-clause-cut : goal.returns-in_err-feed-in-Ok-clause-cut
returns-in_err-feed-in-Ok-clause-cut g c =
    let held = c.pieces.invariant in
    let few = short_piece c.in-Ok.count c.take.new.buf (omega (arith, c.in_ok-room.ensures, c.pieces.auto.piece, c.take.auto.buf)) in
    let p = err_from_is_err_and c.from_residual-in_err-feed-in-Ok.result c.from_residual-in_err-feed-in-Ok.ensures.1 in
    let within : c.pieces.taken ≤ c.args.most = omega (arith, c.pieces-test.true) in
    let came = pieces_fed (take c.in-Ok.count c.take.new.buf) held.answers held.given.none within c.in-Ok.ensures.bytes.bytes few c.first_bytes.ensures refl in
    rw p.1 (rw p.2 (fed_starved (g.A.AnswersFrames.machine g.D.Desk.tells (g.D.Desk.seen c.pieces.desk).reads c.pieces.answerer) came))

pub returns-in_err-feed-in-Ok-clause-until_failure : goal.returns-in_err-feed-in-Ok-clause-until_failure
returns-in_err-feed-in-Ok-clause-until_failure g c =
    let held = c.pieces.invariant in
    takes_more _ c.pieces.source _ held.answers.takes.taken (take c.in-Ok.count c.take.new.buf) held.answers.takes.gave c.in-Ok.ensures.bytes.bytes c.in-Ok.ensures.cause.calm held.calm

pub returns-in_err-bad-in-Ok-clause-cut : goal.returns-in_err-bad-in-Ok-clause-cut
returns-in_err-bad-in-Ok-clause-cut g c =
    let held = c.pieces.invariant in
    let few = short_piece c.in-Ok.count c.take.new.buf (omega (arith, c.in_ok-room.ensures, c.pieces.auto.piece, c.take.auto.buf)) in
    let p = err_from_is_err_and c.from_residual-in_err-bad-in-Ok.result c.from_residual-in_err-bad-in-Ok.ensures.1 in
    let within : c.pieces.taken ≤ c.args.most = omega (arith, c.pieces-test.true) in
    let came = pieces_fed (take c.in-Ok.count c.take.new.buf) held.answers held.given.none within c.in-Ok.ensures.bytes.bytes few c.first_bytes.ensures c.in_ok-feed-in-Ok.ensures.ok in
    rw p.1 (rw p.2 (fed_cut came (ap g.A.AnswersFrames.answers held.on.bounds) c.in_err-bad-in-Ok.ensures.cut (λ some told. c.serve_events.ensures.stops (held.on.kind ∙ some) told)))

pub returns-in_err-bad-in-Ok-clause-until_failure : goal.returns-in_err-bad-in-Ok-clause-until_failure
returns-in_err-bad-in-Ok-clause-until_failure g c =
    let held = c.pieces.invariant in
    takes_more _ c.pieces.source _ held.answers.takes.taken (take c.in-Ok.count c.take.new.buf) held.answers.takes.gave c.in-Ok.ensures.bytes.bytes c.in-Ok.ensures.cause.calm held.calm

pub returns-then-is_decided-clause-ok : goal.returns-then-is_decided-clause-ok
returns-then-is_decided-clause-ok g c =
    let held = c.pieces.invariant in
    let e = c.in_ok-bad-in-Ok.ensures in
    let few = short_piece c.in-Ok.count c.take.new.buf (omega (arith, c.in_ok-room.ensures, c.pieces.auto.piece, c.take.auto.buf)) in
    let within : c.pieces.taken ≤ c.args.most = omega (arith, c.pieces-test.true) in
    let came = pieces_fed (take c.in-Ok.count c.take.new.buf) held.answers held.given.none within c.in-Ok.ensures.bytes.bytes few c.first_bytes.ensures c.in_ok-feed-in-Ok.ensures.ok in (
      fed_decided c.in_ok-bad-in-Ok.bad came (ap g.A.AnswersFrames.answers held.on.bounds) e.ok.0 (λ some told. c.serve_events.ensures.stops (held.on.kind ∙ some) told) e.end (sym c.is_decided.ensures ∙ c.if-is_decided.true),
      λ some told.
          follows_then held.answers.answers.answered e.ok.0.answered (known_in c.args.form) (g.A.AnswersFrames.machine g.D.Desk.tells (g.D.Desk.seen c.args.desk.now).reads c.args.answerer.now) (g.D.Desk.seen c.args.desk.now).reads (g.D.Desk.seen c.pieces.desk).reads
          (g.D.Desk.seen c.serve_events.new.desk).reads (ap g.A.AnswersFrames.answers held.on.bounds) held.answers.answers.known_is held.answers.answers.machine_is (held.follows some told) (e.ok.1 (held.on.kind ∙ some) told),
    )

pub returns-then-is_decided-clause-until_failure : goal.returns-then-is_decided-clause-until_failure
returns-then-is_decided-clause-until_failure g c =
    let held = c.pieces.invariant in
    takes_more _ c.pieces.source _ held.answers.takes.taken (take c.in-Ok.count c.take.new.buf) held.answers.takes.gave c.in-Ok.ensures.bytes.bytes c.in-Ok.ensures.cause.calm held.calm

pub returns-then-is_decided-clause-alone : goal.returns-then-is_decided-clause-alone
returns-then-is_decided-clause-alone g c = λ none.
    let held = c.pieces.invariant in OnlySaysAndNotes-then (held.alone none) (c.serve_events.ensures.alone (held.on.kind ∙ none))

pub returns-clause-ok : goal.returns-clause-ok
returns-clause-ok g c =
    let held = c.pieces.invariant in
    let more : c.args.most < length held.answers.takes.taken = omega (arith, held.answers.counted, c.pieces-test.false) in (
      pieces_end held.answers held.answers.takes.gave more,
      held.follows,
    )

pub returns-clause-until_failure : goal.returns-clause-until_failure
returns-clause-until_failure g c = let held = c.pieces.invariant in takes_so_far _ _ held.answers.takes.taken held.answers.takes.gave held.calm

pub returns-in_err-room-clause-room : goal.returns-in_err-room-clause-room
returns-in_err-room-clause-room g c = room_calm _ c.args.desk.now

pub returns-in_err-bad-in-Ok-clause-room : goal.returns-in_err-bad-in-Ok-clause-room
returns-in_err-bad-in-Ok-clause-room g c =
    let held = c.pieces.invariant in
    room_more (g.A.AnswersFrames.serving c.args.answerer.now).slot (g.A.AnswersFrames.serving c.pieces.answerer).slot held.on.slot held.room c.serve_events.ensures.room

pub returns-then-is_decided-clause-room : goal.returns-then-is_decided-clause-room
returns-then-is_decided-clause-room g c =
    let held = c.pieces.invariant in
    room_more (g.A.AnswersFrames.serving c.args.answerer.now).slot (g.A.AnswersFrames.serving c.pieces.answerer).slot held.on.slot held.room c.serve_events.ensures.room

pub returns-in_err-room-clause-alone : goal.returns-in_err-room-clause-alone
returns-in_err-room-clause-alone g c = λ none. OnlySaysAndNotes-none c.args.desk.now

pub returns-in_err-bad-in-Ok-clause-alone : goal.returns-in_err-bad-in-Ok-clause-alone
returns-in_err-bad-in-Ok-clause-alone g c = λ none.
    let held = c.pieces.invariant in OnlySaysAndNotes-then (held.alone none) (c.serve_events.ensures.alone (held.on.kind ∙ none))

pub returns-in_err-bad-in-Ok-clause-unsaid : goal.returns-in_err-bad-in-Ok-clause-unsaid
returns-in_err-bad-in-Ok-clause-unsaid g c =
    let p = err_from_is_err_and c.from_residual-in_err-bad-in-Ok.result c.from_residual-in_err-bad-in-Ok.ensures.1 in
    rw p.1 (rw p.2 (λ is. let turn = c.in_err-bad-in-Ok.ensures.unsaid is in (GoesOn-then c.pieces.invariant.on turn.0, turn.1)))

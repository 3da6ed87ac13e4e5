use Rattle.std.proofs.Common.{ℕ, List, [], length, refl, sym, ap, ◌∙◌, take, subst}
use Rattle.std.proofs.lemmas.Result.{err_from_is_err_and}
use Rattle.ziti_outside.specs.Causes.{Rose}
use Rattle.ziti_outside.specs.Told.{Gave}
use Rattle.ziti_outside.specs.Untouched.{OnlySays}
use Rattle.ziti_outside.proofs.MomentLaws.{OnlySays-none, OnlySays-then}
use Rattle.live_lines.proofs.WatchLaws.{takes_piece, takes_none, in_time_start, watch_start, watch_take, watch_more, watch_cut, watch_unread, watch_starved, watch_none, watch_end, cut_calm, cut_said}
use Rattle.live_lines.proofs.watching.tell_kind.Goals as goal

pub takes-init : goal.takes-init
takes-init g c =
    let e = c.args.exchange.now in
    record {
      room = ap (λ (bytes : List ℕ). length bytes) c.as_mut_slice-piece.ensures.value ∙ c.in_ok-room.ensures;
      watches = watch_start g.K.LineKind.reading c.in_order.ensures g.S.Source.left g.D.Desk.seen e c.new-telling.result c.new-telling.ensures;
      calm = refl;
      calm_say = refl;
      others = OnlySays-none e.desk;
    }

pub takes-preserved : goal.takes-preserved
takes-preserved g c =
    let k = g.K.LineKind.reading in
    let held = c.takes.invariant in
    let now = c.takes.exchange in
    let mid = c.take.new.self in
    let then = record mid { desk = c.tell_piece.new.desk } in
    let e = c.in_ok-tell_piece-in-Ok.ensures in
    let piece : List ℕ = take c.in-Ok.count c.take.new.buf in
    let gave = c.in-Ok.ensures.bytes.bytes in
    let taken = takes_piece g.S.Source.left now.source mid.source now.desk mid.desk c.in-Ok.count c.take.new.buf gave (c.take.ensures.room ∙ held.room) c.take.ensures.desk in
    record {
      room = c.take.ensures.room ∙ held.room;
      watches = watch_more k g.S.Source.left g.D.Desk.seen c.args.exchange.now now then mid.desk c.takes.telling c.tell_piece.new.telling piece held.watches
          (watch_take k g.S.Source.left g.D.Desk.seen c.args.exchange.now now then (mid.source, mid.desk) c.takes.telling held.watches taken c.take.ensures.starts c.take.ensures.ends refl)
          gave c.take.ensures.desk (e.told held.watches.came held.watches.follows);
      calm = c.in-Ok.ensures.cause.calm ∙ held.calm;
      calm_say = e.say_cause ∙ ap (λ d. (g.D.Desk.seen d).say_faults) c.take.ensures.desk ∙ held.calm_say;
      others = OnlySays-then held.others (subst (λ d. OnlySays g.D.Desk.seen g.D.Desk.stopped d c.tell_piece.new.desk) c.take.ensures.desk c.tell_piece.ensures.others);
    }

pub returns-in_err-room-clause-cut : goal.returns-in_err-room-clause-cut
returns-in_err-room-clause-cut g c =
    let e = c.args.exchange.now in
    let p = err_from_is_err_and c.from_residual.result c.from_residual.ensures.1 in
    rw p.1 (rw p.2 (watch_none g.K.LineKind.reading c.in_order.ensures (g.S.Source.left e.source) (g.D.Desk.seen e.desk).said))

pub returns-in_err-room-clause-in_time : goal.returns-in_err-room-clause-in_time
returns-in_err-room-clause-in_time g c = in_time_start g.K.LineKind.reading g.S.Source.left g.D.Desk.seen c.args.exchange.now

pub returns-in_err-room-clause-others : goal.returns-in_err-room-clause-others
returns-in_err-room-clause-others g c = OnlySays-none c.args.exchange.now.desk

pub returns-in-Err-clause-cut : goal.returns-in-Err-clause-cut
returns-in-Err-clause-cut g c =
    watch_unread g.K.LineKind.reading g.S.Source.left g.D.Desk.seen c.args.exchange.now c.takes.exchange c.take.new.self c.takes.telling c.takes.invariant.watches
    c.in-Err.ensures.bytes.bytes c.take.ensures.desk

pub returns-in-Err-clause-in_time : goal.returns-in-Err-clause-in_time
returns-in-Err-clause-in_time g c =
    let now = c.takes.exchange in
    let mid = c.take.new.self in
    watch_take g.K.LineKind.reading g.S.Source.left g.D.Desk.seen c.args.exchange.now now mid (mid.source, mid.desk) c.takes.telling c.takes.invariant.watches
    (takes_none g.S.Source.left now.source mid.source now.desk mid.desk c.in-Err.ensures.bytes.bytes c.take.ensures.desk) c.take.ensures.starts c.take.ensures.ends refl

pub returns-in-Err-clause-take_cause : goal.returns-in-Err-clause-take_cause
returns-in-Err-clause-take_cause g c =
    let held = c.takes.invariant in
    subst (λ (n : ℕ). Rose n (g.S.Source.faults c.take.new.self.source)) held.calm c.in-Err.ensures.cause.failed

pub returns-in-Err-clause-say_cause : goal.returns-in-Err-clause-say_cause
returns-in-Err-clause-say_cause g c = ap (λ d. (g.D.Desk.seen d).say_faults) c.take.ensures.desk ∙ c.takes.invariant.calm_say

pub returns-in-Err-clause-others : goal.returns-in-Err-clause-others
returns-in-Err-clause-others g c =
    subst (λ d. OnlySays g.D.Desk.seen g.D.Desk.stopped c.args.exchange.now.desk d) (sym c.take.ensures.desk) c.takes.invariant.others

pub returns-in-Ok-eq0-clause-told : goal.returns-in-Ok-eq0-clause-told
returns-in-Ok-eq0-clause-told g c =
    let now = c.takes.exchange in
    let mid = c.take.new.self in
    let left = g.S.Source.left in
    let none : Gave (left now.source) (left mid.source) [] = subst (λ (n : ℕ). Gave (left now.source) (left mid.source) (take n c.take.new.buf)) c.in-Ok-eq0.field-0-test c.in-Ok-eq0.ensures.bytes.bytes in
    watch_end g.K.LineKind.reading left g.D.Desk.seen c.args.exchange.now now mid c.takes.telling c.fault.result c.takes.invariant.watches none
    (c.in-Ok-eq0.ensures.bytes.end c.in-Ok-eq0.field-0-test) c.take.ensures.desk c.fault.ensures

pub returns-in-Ok-eq0-clause-in_time : goal.returns-in-Ok-eq0-clause-in_time
returns-in-Ok-eq0-clause-in_time g c =
    let held = c.takes.invariant in
    let now = c.takes.exchange in
    let mid = c.take.new.self in
    watch_take g.K.LineKind.reading g.S.Source.left g.D.Desk.seen c.args.exchange.now now mid (mid.source, mid.desk) c.takes.telling held.watches
    (takes_piece g.S.Source.left now.source mid.source now.desk mid.desk _ c.take.new.buf c.in-Ok-eq0.ensures.bytes.bytes (c.take.ensures.room ∙ held.room) c.take.ensures.desk)
    c.take.ensures.starts c.take.ensures.ends refl

pub returns-in-Ok-eq0-clause-say_cause : goal.returns-in-Ok-eq0-clause-say_cause
returns-in-Ok-eq0-clause-say_cause g c = ap (λ d. (g.D.Desk.seen d).say_faults) c.take.ensures.desk ∙ c.takes.invariant.calm_say

pub returns-in-Ok-eq0-clause-others : goal.returns-in-Ok-eq0-clause-others
returns-in-Ok-eq0-clause-others g c =
    subst (λ d. OnlySays g.D.Desk.seen g.D.Desk.stopped c.args.exchange.now.desk d) (sym c.take.ensures.desk) c.takes.invariant.others

pub returns-in_err-tell_piece-in-Ok-clause-cut : goal.returns-in_err-tell_piece-in-Ok-clause-cut
returns-in_err-tell_piece-in-Ok-clause-cut g c =
    let held = c.takes.invariant in
    let mid = c.take.new.self in
    let piece : List ℕ = take c.in-Ok.count c.take.new.buf in
    let p = err_from_is_err_and c.from_residual-in_err-tell_piece-in-Ok.result c.from_residual-in_err-tell_piece-in-Ok.ensures.1 in
    rw p.1 (rw p.2 (watch_cut _ g.K.LineKind.reading g.S.Source.left g.D.Desk.seen c.args.exchange.now c.takes.exchange (record mid { desk = c.tell_piece.new.desk }) mid.desk
    c.takes.telling piece held.watches c.in-Ok.ensures.bytes.bytes c.take.ensures.desk (c.in_err-tell_piece-in-Ok.ensures.cut held.watches.came held.watches.follows)))

pub returns-in_err-tell_piece-in-Ok-clause-take_cause : goal.returns-in_err-tell_piece-in-Ok-clause-take_cause
returns-in_err-tell_piece-in-Ok-clause-take_cause g c =
    let held = c.takes.invariant in
    let seen = g.D.Desk.seen in
    let mid = c.take.new.self in
    let piece : List ℕ = take c.in-Ok.count c.take.new.buf in
    let p = err_from_is_err_and c.from_residual-in_err-tell_piece-in-Ok.result c.from_residual-in_err-tell_piece-in-Ok.ensures.1 in
    rw p.1 (rw p.2 (cut_calm _ g.K.LineKind.reading held.watches.came piece (seen mid.desk).said (seen c.tell_piece.new.desk).said (g.S.Source.faults c.args.exchange.now.source)
    (g.S.Source.faults mid.source) (c.in_err-tell_piece-in-Ok.ensures.cut held.watches.came held.watches.follows) (c.in-Ok.ensures.cause.calm ∙ held.calm)))

pub returns-in_err-tell_piece-in-Ok-clause-say_cause : goal.returns-in_err-tell_piece-in-Ok-clause-say_cause
returns-in_err-tell_piece-in-Ok-clause-say_cause g c =
    let held = c.takes.invariant in
    let seen = g.D.Desk.seen in
    let mid = c.take.new.self in
    let p = err_from_is_err_and c.from_residual-in_err-tell_piece-in-Ok.result c.from_residual-in_err-tell_piece-in-Ok.ensures.1 in
    rw p.1 (rw p.2 (cut_said _ (seen c.args.exchange.now.desk).say_faults (seen mid.desk).say_faults (seen c.tell_piece.new.desk).say_faults c.in_err-tell_piece-in-Ok.ensures.say_cause
    (ap (λ d. (seen d).say_faults) c.take.ensures.desk ∙ held.calm_say)))

pub returns-in_err-tell_piece-in-Ok-clause-in_time : goal.returns-in_err-tell_piece-in-Ok-clause-in_time
returns-in_err-tell_piece-in-Ok-clause-in_time g c =
    let held = c.takes.invariant in
    let now = c.takes.exchange in
    let mid = c.take.new.self in
    watch_take g.K.LineKind.reading g.S.Source.left g.D.Desk.seen c.args.exchange.now now (record mid { desk = c.tell_piece.new.desk }) (mid.source, mid.desk) c.takes.telling held.watches
    (takes_piece g.S.Source.left now.source mid.source now.desk mid.desk c.in-Ok.count c.take.new.buf c.in-Ok.ensures.bytes.bytes (c.take.ensures.room ∙ held.room) c.take.ensures.desk)
    c.take.ensures.starts c.take.ensures.ends refl

pub returns-in_err-tell_piece-in-Ok-clause-others : goal.returns-in_err-tell_piece-in-Ok-clause-others
returns-in_err-tell_piece-in-Ok-clause-others g c =
    OnlySays-then c.takes.invariant.others (subst (λ d. OnlySays g.D.Desk.seen g.D.Desk.stopped d c.tell_piece.new.desk) c.take.ensures.desk c.tell_piece.ensures.others)

pub returns-clause-cut : goal.returns-clause-cut
returns-clause-cut g c =
    watch_starved g.K.LineKind.reading g.S.Source.left g.D.Desk.seen c.args.exchange.now c.takes.exchange c.takes.telling c.takes.invariant.watches

pub returns-clause-in_time : goal.returns-clause-in_time
returns-clause-in_time g c = c.takes.invariant.watches.in_time

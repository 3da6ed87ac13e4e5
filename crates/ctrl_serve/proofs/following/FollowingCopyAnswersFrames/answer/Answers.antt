use Rattle.std.proofs.Common.{List, ℕ, refl, ap, ◌∙◌, ◌++◌}
use Rattle.row_store.specs.declared.bounds.StoreBounds.{StoreBounds}
use Rattle.ctrl_serve.proofs.ControllerLaws.{able, unspent}
use Rattle.ctrl_serve.proofs.CopyLaws.{copy_found, copy_next, copy_replied, copy_stops, ready_as, stands_as}
use Rattle.ctrl_serve.proofs.following.FollowingCopyAnswersFrames.answer.Goals as goal

pub take-requires : goal.take-requires
take-requires g c = record { stands = λ fresh told. stands_as c.args.self.now.follower g.D.Desk.tells _ _ c.requires.ready told }

pub returns-in_ok-write_answer-in-Ok-clause-next : goal.returns-in_ok-write_answer-in-Ok-clause-next
returns-in_ok-write_answer-in-Ok-clause-next g c =
    let old = c.args.self.now.follower in
    let on = c.in-Ok.ensures.unspent in
    copy_next c.args.who.now c.args.frame.now g.D.Desk.tells _ _ _ _ old c.take.new.self c.in-Ok.taken c.requires.ready.holds
    (stands_as old g.D.Desk.tells _ _ c.requires.ready) (c.take.ensures.stands on.1) c.in-Ok.ensures.taken

pub returns-in_ok-write_answer-in-Ok-clause-written : goal.returns-in_ok-write_answer-in-Ok-clause-written
returns-in_ok-write_answer-in-Ok-clause-written g c = λ own.
    let old = c.args.self.now.follower in
    c.in_ok-write_answer-in-Ok.ensures ∙ ap (λ (bytes : List ℕ). c.args.reply.now.items ++ bytes)
    (copy_replied c.args.who.now c.args.frame.now c.args.sequence g.D.Desk.tells _ (g.D.Desk.seen c.take.new.desk).reads _ old c.take.new.self c.in-Ok.taken _ c.requires.ready.holds
    (stands_as old g.D.Desk.tells _ _ c.requires.ready) c.in-Ok.ensures.taken refl own)

pub returns-in_ok-write_answer-in-Ok-clause-on : goal.returns-in_ok-write_answer-in-Ok-clause-on
returns-in_ok-write_answer-in-Ok-clause-on g c =
    let on = c.in-Ok.ensures.unspent in
    record { able = able _ on.1; bounds = on.2; slot = ap (λ (b : StoreBounds). b.slot) on.2; kind = refl }

pub returns-in_ok-write_answer-in-Ok-clause-follows : goal.returns-in_ok-write_answer-in-Ok-clause-follows
returns-in_ok-write_answer-in-Ok-clause-follows g c = λ some told. tt

pub returns-in_ok-write_answer-in-Ok-clause-ready : goal.returns-in_ok-write_answer-in-Ok-clause-ready
returns-in_ok-write_answer-in-Ok-clause-ready g c =
    let on = c.in-Ok.ensures.unspent in
    ready_as c.take.new.self g.D.Desk.tells _ _ (c.take.ensures.holds on.1) (c.take.ensures.stands on.1)

pub returns-in_ok-write_answer-in-Ok-clause-found : goal.returns-in_ok-write_answer-in-Ok-clause-found
returns-in_ok-write_answer-in-Ok-clause-found g c = λ some told image left.
    let on = c.in-Ok.ensures.unspent in
    copy_found c.take.new.self g.D.Desk.tells _ _ (c.take.ensures.holds on.1) (c.take.ensures.stands on.1 told) told image left

pub returns-in_ok-write_answer-in-Ok-clause-stops : goal.returns-in_ok-write_answer-in-Ok-clause-stops
returns-in_ok-write_answer-in-Ok-clause-stops g c = λ some told.
    let old = c.args.self.now.follower in
    let fresh = unspent old.stored.spent c.requires.able in
    copy_stops c.args.who.now c.args.frame.now g.D.Desk.tells _ _ old c.requires.ready.holds (stands_as old g.D.Desk.tells _ _ c.requires.ready)
    (c.take.ensures.stops fresh told) (c.take.ensures.opens fresh told) told

pub returns-in_err-write_answer-in-Ok-clause-stops : goal.returns-in_err-write_answer-in-Ok-clause-stops
returns-in_err-write_answer-in-Ok-clause-stops g c = λ some told.
    let old = c.args.self.now.follower in
    let fresh = unspent old.stored.spent c.requires.able in
    copy_stops c.args.who.now c.args.frame.now g.D.Desk.tells _ _ old c.requires.ready.holds (stands_as old g.D.Desk.tells _ _ c.requires.ready)
    (c.take.ensures.stops fresh told) (c.take.ensures.opens fresh told) told

pub returns-in-Err-clause-stops : goal.returns-in-Err-clause-stops
returns-in-Err-clause-stops g c = λ some told.
    let old = c.args.self.now.follower in
    let fresh = unspent old.stored.spent c.requires.able in
    copy_stops c.args.who.now c.args.frame.now g.D.Desk.tells _ _ old c.requires.ready.holds (stands_as old g.D.Desk.tells _ _ c.requires.ready)
    (c.take.ensures.stops fresh told) (c.take.ensures.opens fresh told) told

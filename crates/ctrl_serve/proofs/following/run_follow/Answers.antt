use Rattle.std.proofs.Common.{Some, arith, ap, inl, inr, refl, ◌∙◌, subst, max}
use Rattle.journal_core.specs.Room.{empty_size, HoldsRoom}
use Rattle.row_store.specs.declared.bounds.StoreBounds.{StoreBounds}
use Rattle.row_store.specs.StoredRows.{Stored}
use Rattle.ctrl_keep.specs.KeptController.{Controlled}
use Rattle.session_mux.specs.declared.sessions.Form.TheVariants.{Plain}
use Rattle.ctrl_serve.specs.Headline.{folder_bounds, IsUnopened}
use Rattle.ctrl_serve.proofs.ClosedFolders.{closed_calm, closed_disk, never_spent, opens_none, unopened}
use Rattle.ctrl_serve.proofs.ControllerLaws.{able}
use Rattle.ctrl_serve.proofs.CopyRuns.{copies_within, holds_state, ready_first}
use Rattle.ctrl_serve.proofs.ReplayLaws.{closed_counts, opened_counts}
use Rattle.ctrl_serve.proofs.RoomRuns.{closed_room, opened_room}
use Rattle.ctrl_serve.proofs.following.run_follow.Goals as goal

pub returns-in-Ok-clause-follows : goal.returns-in-Ok-clause-follows
returns-in-Ok-clause-follows g c =
    let e = c.in-Ok.ensures in
    inr (copies_within (record { left = g.S.Source.left; faults = g.S.Source.faults; tells = g.D.Desk.tells; seen = g.D.Desk.seen; stopped = g.D.Desk.stopped })
    Plain (folder_bounds c.args.bounds) c.store_bounds.result c.args.bounds.input c.in-Ok.kept c.new-follower.result c.run_on-status.new.answerer.follower c.args.source.now c.run_on-status.new.source c.args.desk.now c.open.new.desk c.run_on-status.new.desk c.run_on-status.result
    c.store_bounds.ensures (c.new-follower.ensures.stored ∙ c.into_store.ensures.store) c.new-follower.ensures.parts e.opens e.stands e.holds e.opened.0 e.created c.open.ensures.others e.stops c.run_on-status.ensures.runs)

pub returns-in-Ok-clause-counts : goal.returns-in-Ok-clause-counts
returns-in-Ok-clause-counts g c =
    opened_counts _ _ c.args.desk.now c.open.new.desk c.run_on-status.new.desk c.run_on-status.result c.open.ensures.others c.in-Ok.ensures.cause.calm c.run_on-status.ensures.counts

pub returns-in-Err-clause-follows : goal.returns-in-Err-clause-follows
returns-in-Err-clause-follows g c =
    let o = c.open.ensures in
    let t = c.tell_closed.ensures in
    inl (record {
      takes_nothing = refl;
      unopened = subst (λ (b : StoreBounds). IsUnopened (Some b) g.D.Desk.tells g.D.Desk.seen g.D.Desk.stopped c.args.desk.now c.tell_closed.new.desk c.tell_closed.result) c.store_bounds.ensures
          (unopened (Some c.store_bounds.result) g.D.Desk.tells c.in-Err.fault c.args.desk.now c.open.new.desk c.tell_closed.new.desk c.tell_closed.result
          (opens_none c.store_bounds.result g.D.Desk.tells c.in-Err.fault c.args.desk.now c.open.new.desk o.others c.in-Err.ensures.fault c.in-Err.ensures.kept o.quiet c.in-Err.ensures.stops) t.others t.stops t.told);
    })

pub returns-in-Err-clause-counts : goal.returns-in-Err-clause-counts
returns-in-Err-clause-counts g c =
    let t = c.tell_closed.ensures in
    let not = closed_calm c.in-Err.fault c.tell_closed.result _ _ t.told in
    closed_counts _ c.args.desk.now c.open.new.desk c.tell_closed.new.desk c.tell_closed.result c.open.ensures.others t.others t.counted
    (closed_disk Controlled _ _ _ c.in-Err.fault c.tell_closed.result _ _ c.in-Err.ensures.cause t.others.failed_calls t.told) not.0 not.1

pub tell_closed-requires : goal.tell_closed-requires
tell_closed-requires g c = never_spent (Some c.store_bounds.result) g.D.Desk.tells _ c.in-Err.fault c.in-Err.ensures.fault

pub returns-in-Ok-clause-room : goal.returns-in-Ok-clause-room
returns-in-Ok-clause-room g c =
    let stored = c.new-follower.ensures.stored ∙ c.into_store.ensures.store in
    opened_room (folder_bounds c.args.bounds) c.new-follower.result.stored.bounds (omega (arith, c.requires.slot_low)) (ap (λ (s : Stored). s.bounds) stored ∙ c.in-Ok.ensures.opened.0 ∙ c.store_bounds.ensures) (subst (λ (b : StoreBounds). HoldsRoom g.D.Desk.tells (max empty_size b.slot) g.D.Desk.seen g.D.Desk.stopped c.args.desk.now c.open.new.desk) c.store_bounds.ensures c.open.ensures.room) c.run_on-status.ensures.room

pub returns-in-Err-clause-room : goal.returns-in-Err-clause-room
returns-in-Err-clause-room g c = closed_room (folder_bounds c.args.bounds) (omega (arith, c.requires.slot_low)) (subst (λ (b : StoreBounds). HoldsRoom g.D.Desk.tells (max empty_size b.slot) g.D.Desk.seen g.D.Desk.stopped c.args.desk.now c.open.new.desk) c.store_bounds.ensures c.open.ensures.room) c.tell_closed.ensures.others.parts c.tell_closed.ensures.others.found

pub new-follower-requires-clause-opened : goal.new-follower-requires-clause-opened
new-follower-requires-clause-opened g c = (c.into_store.ensures.able c.in-Ok.ensures.opened.1).0

pub new-follower-requires-clause-unspent : goal.new-follower-requires-clause-unspent
new-follower-requires-clause-unspent g c = (c.into_store.ensures.able c.in-Ok.ensures.opened.1).1

pub new-follower-requires-clause-holds : goal.new-follower-requires-clause-holds
new-follower-requires-clause-holds g c = holds_state c.in-Ok.kept c.into_store.result c.into_store.ensures.store c.in-Ok.ensures.holds

pub run_on-status-requires-clause-able : goal.run_on-status-requires-clause-able
run_on-status-requires-clause-able g c =
    able c.new-follower.result.stored.spent (ap (λ (s : Stored). s.spent) c.new-follower.ensures.stored ∙ (c.into_store.ensures.able c.in-Ok.ensures.opened.1).1)

pub run_on-status-requires-clause-ready : goal.run_on-status-requires-clause-ready
run_on-status-requires-clause-ready g c =
    ready_first c.in-Ok.kept c.new-follower.result g.D.Desk.tells _ _ (c.new-follower.ensures.stored ∙ c.into_store.ensures.store) c.new-follower.ensures.sought c.in-Ok.ensures.holds c.in-Ok.ensures.stands

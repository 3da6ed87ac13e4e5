use Rattle.std.proofs.Common.{ℕ, None, Some, inr, subst}
use Rattle.run_notes.specs.NotedLines.{RisesOnce}
use Rattle.serve_loop.proofs.DeskLaws.{LeftAlone-then, noted_alone}
use Rattle.ctrl_serve.proofs.ShipLaws.{IsShippedBy, disk_told, shipped_alone, shipped_calls, shipped_done, shipped_notes, shipped_says, unshipped, write_told}
use Rattle.ctrl_serve.proofs.shipping.run_ship.Goals as goal

pub returns-in-Ok-clause-ships : goal.returns-in-Ok-clause-ships
returns-in-Ok-clause-ships g c =
    let d = g.D.Desk in
    let e = c.in-Ok.ensures in
    let by : IsShippedBy c.args.from d.tells d.seen d.stopped None c.args.desk.now c.ship.new.desk =
    record { says = e.says; judges = e.judges; opens = e.opens; alone = c.ship.ensures.alone } in
    inr (shipped_done c.args.from d.tells by)

pub returns-in-Ok-clause-alone : goal.returns-in-Ok-clause-alone
returns-in-Ok-clause-alone g c = shipped_alone None c.in-Ok.ensures.frames c.ship.ensures.alone

pub returns-in-Ok-clause-write_cause : goal.returns-in-Ok-clause-write_cause
returns-in-Ok-clause-write_cause g c = shipped_says _ _ c.in-Ok.ensures.write_cause

pub returns-in-Ok-clause-disk_cause : goal.returns-in-Ok-clause-disk_cause
returns-in-Ok-clause-disk_cause g c = shipped_calls _ _ c.in-Ok.ensures.disk_cause

pub returns-in-Err-clause-ships : goal.returns-in-Err-clause-ships
returns-in-Err-clause-ships g c =
    let d = g.D.Desk in
    let e = c.in-Err.ensures in
    let t = c.tell_unshipped.ensures in
    let by : IsShippedBy c.args.from d.tells d.seen d.stopped (Some c.in-Err.fault) c.args.desk.now c.ship.new.desk =
    record { says = e.says; judges = e.judges; opens = e.opens; alone = c.ship.ensures.alone } in
    unshipped c.args.from d.tells c.in-Err.fault c.args.desk.now c.ship.new.desk c.tell_unshipped.new.desk c.tell_unshipped.result by t.others t.stops t.told

pub returns-in-Err-clause-alone : goal.returns-in-Err-clause-alone
returns-in-Err-clause-alone g c =
    LeftAlone-then (shipped_alone (Some c.in-Err.fault) c.in-Err.ensures.frames c.ship.ensures.alone) (noted_alone c.tell_unshipped.ensures.others c.tell_unshipped.ensures.stops)

pub returns-in-Err-clause-write_cause : goal.returns-in-Err-clause-write_cause
returns-in-Err-clause-write_cause g c =
    let t = c.tell_unshipped.ensures in
    write_told _ _ _ c.in-Err.fault c.tell_unshipped.result _ _ c.in-Err.ensures.write_cause t.others.failed_says t.told

pub returns-in-Err-clause-disk_cause : goal.returns-in-Err-clause-disk_cause
returns-in-Err-clause-disk_cause g c =
    let t = c.tell_unshipped.ensures in
    disk_told _ _ _ c.in-Err.fault c.tell_unshipped.result _ _ c.in-Err.ensures.disk_cause t.others.failed_calls t.told

pub returns-in-Ok-clause-counted : goal.returns-in-Ok-clause-counted
returns-in-Ok-clause-counted g c = shipped_notes _ _ c.ship.ensures.alone.failed_notes

pub returns-in-Err-clause-counted : goal.returns-in-Err-clause-counted
returns-in-Err-clause-counted g c =
    subst (λ (n : ℕ). RisesOnce n (g.D.Desk.seen c.tell_unshipped.new.desk).note_faults) c.ship.ensures.alone.failed_notes c.tell_unshipped.ensures.counted

use Rattle.std.proofs.Common.{ℕ, inl, inr, Some, subst, ◌∙◌}
use Rattle.ctrl_keep.specs.KeptController.{Controlled}
use Rattle.run_notes.specs.NotedLines.{RisesOnce}
use Rattle.ctrl_serve.specs.Runs.{IsDiskCaused}
use Rattle.ctrl_serve.proofs.FolderLaws.{compacted_opened}
use Rattle.ctrl_serve.proofs.ClosedFolders.{closed_disk, never_spent, opens_none, unopened}
use Rattle.ctrl_serve.proofs.RoomRuns.{closed_room, opened_room}
use Rattle.ctrl_serve.proofs.folder.run_compact.Goals as goal

pub returns-in-Ok-clause-compacts : goal.returns-in-Ok-clause-compacts
returns-in-Ok-clause-compacts g c =
    let e = c.in-Ok.ensures in
    let o = c.open.ensures in
    let t = c.compact_opened.ensures in
    inr (compacted_opened {seen = g.D.Desk.seen} {stopped = g.D.Desk.stopped} c.args.bounds c.in-Ok.kept g.D.Desk.tells c.args.desk.now c.open.new.desk c.compact_opened.new.desk c.compact_opened.result
    e.opens e.stands e.holds e.opened.0 e.created o.others o.quiet e.stops t.ends t.still t.quiet t.stops)

pub returns-in-Ok-clause-says_nothing : goal.returns-in-Ok-clause-says_nothing
returns-in-Ok-clause-says_nothing g c = c.compact_opened.ensures.quiet.quiet ∙ c.open.ensures.others.replies

pub returns-in-Ok-clause-failed_says : goal.returns-in-Ok-clause-failed_says
returns-in-Ok-clause-failed_says g c = c.compact_opened.ensures.failed_says ∙ c.open.ensures.others.failed_says

pub returns-in-Ok-clause-disk_cause : goal.returns-in-Ok-clause-disk_cause
returns-in-Ok-clause-disk_cause g c =
    subst (λ (n : ℕ). IsDiskCaused n (g.D.Desk.seen c.compact_opened.new.desk).disk_faults c.compact_opened.result) c.in-Ok.ensures.cause.calm c.compact_opened.ensures.disk_cause

pub returns-in-Ok-clause-counted : goal.returns-in-Ok-clause-counted
returns-in-Ok-clause-counted g c =
    subst (λ (n : ℕ). RisesOnce n (g.D.Desk.seen c.compact_opened.new.desk).note_faults) c.open.ensures.others.failed_notes c.compact_opened.ensures.counted

pub returns-in-Err-clause-compacts : goal.returns-in-Err-clause-compacts
returns-in-Err-clause-compacts g c =
    let o = c.open.ensures in
    let t = c.tell_closed.ensures in
    inl (unopened (Some c.args.bounds) g.D.Desk.tells c.in-Err.fault c.args.desk.now c.open.new.desk c.tell_closed.new.desk c.tell_closed.result
    (opens_none c.args.bounds g.D.Desk.tells c.in-Err.fault c.args.desk.now c.open.new.desk o.others c.in-Err.ensures.fault c.in-Err.ensures.kept o.quiet c.in-Err.ensures.stops) t.others t.stops t.told)

pub returns-in-Err-clause-says_nothing : goal.returns-in-Err-clause-says_nothing
returns-in-Err-clause-says_nothing g c = c.tell_closed.ensures.others.replies ∙ c.open.ensures.others.replies

pub returns-in-Err-clause-failed_says : goal.returns-in-Err-clause-failed_says
returns-in-Err-clause-failed_says g c = c.tell_closed.ensures.others.failed_says ∙ c.open.ensures.others.failed_says

pub returns-in-Err-clause-disk_cause : goal.returns-in-Err-clause-disk_cause
returns-in-Err-clause-disk_cause g c =
    let t = c.tell_closed.ensures in
    closed_disk Controlled _ _ _ c.in-Err.fault c.tell_closed.result _ _ c.in-Err.ensures.cause t.others.failed_calls t.told

pub returns-in-Err-clause-counted : goal.returns-in-Err-clause-counted
returns-in-Err-clause-counted g c =
    subst (λ (n : ℕ). RisesOnce n (g.D.Desk.seen c.tell_closed.new.desk).note_faults) c.open.ensures.others.failed_notes c.tell_closed.ensures.counted

pub tell_closed-requires : goal.tell_closed-requires
tell_closed-requires g c = never_spent (Some c.args.bounds) g.D.Desk.tells _ c.in-Err.fault c.in-Err.ensures.fault

pub returns-in-Ok-clause-room : goal.returns-in-Ok-clause-room
returns-in-Ok-clause-room g c = λ enough. opened_room c.args.bounds c.in-Ok.kept.stored.bounds enough c.in-Ok.ensures.opened.0 c.open.ensures.room c.compact_opened.ensures.room

pub returns-in-Err-clause-room : goal.returns-in-Err-clause-room
returns-in-Err-clause-room g c = λ enough. closed_room c.args.bounds enough c.open.ensures.room c.tell_closed.ensures.others.parts c.tell_closed.ensures.others.found

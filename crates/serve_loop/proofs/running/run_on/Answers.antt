use Rattle.std.proofs.Common.{Err, ap, ◌∙◌}
use Rattle.ziti_outside.specs.Images.{Image}
use Rattle.journal_core.proofs.RoomLaws.{held_none, held_then}
use Rattle.serve_loop.specs.Answerers.{seen_by}
use Rattle.serve_loop.proofs.DeskLaws.{notes_behind, ready_behind}
use Rattle.serve_loop.proofs.IntakeLaws.{all_no_fault, input_counted, write_calm, disk_calm, cut_write, cut_disk}
use Rattle.serve_loop.proofs.OwnReplyLaws.{more_by, same_said}
use Rattle.serve_loop.proofs.RunLaws.{cut_is_read, cut_run_counted, cut_runs, cut_undisked, input_counts, input_runs, runs_at, runs_calm}
use Rattle.serve_loop.proofs.running.run_on.Goals as goal

pub returns-in-Ok-clause-runs : goal.returns-in-Ok-clause-runs
returns-in-Ok-clause-runs g c =
    let e = c.in-Ok.ensures in
    runs_calm c.new-notes.ensures (input_runs c.in-Ok.status e.answers.0 c.new-notes.ensures e.answers.1 (e.on, e.ready))

pub returns-in-Ok-clause-counts : goal.returns-in-Ok-clause-counts
returns-in-Ok-clause-counts g c =
    let e = c.in-Ok.ensures in
    let not = all_no_fault e.answers.0.all in
    input_counts _ _ _ _ c.in-Ok.status e.read c.serve_input.ensures.counted c.serve_input.ensures.until_failure (write_calm _ _ c.in-Ok.status e.say_cause.calm not.0) (disk_calm _ _ c.in-Ok.status e.disk_cause.calm not.1)
    (input_counted c.in-Ok.status e.answers.0 c.new-notes.ensures)

pub returns-in-Ok-clause-undisked : goal.returns-in-Ok-clause-undisked
returns-in-Ok-clause-undisked g c = λ alone. (all_no_fault c.in-Ok.ensures.answers.0.all).1

pub returns-in-Err-clause-runs : goal.returns-in-Err-clause-runs
returns-in-Err-clause-runs g c =
    let t = c.tell_cut_behind.ensures in
    runs_at (ap (λ (reads : Image). g.A.AnswersFrames.machine g.D.Desk.tells reads c.serve_input.new.answerer) t.others.parts) (runs_calm c.new-notes.ensures (cut_runs c.in-Err.cut (record { failed = c.tell_cut_behind.new.notes.failed; desk = seen_by g.A.AnswersFrames.by_folder g.D.Desk.tells (g.D.Desk.seen c.tell_cut_behind.new.desk) }) c.tell_cut_behind.result t.status c.in-Err.ensures.answers c.new-notes.ensures
    (λ is. let on = c.in-Err.ensures.unsaid is in (on.0, ready_behind _ g.D.Desk.tells _ _ _ _ t.others.parts t.others.found on.1)) (same_said g.A.AnswersFrames.by_folder g.D.Desk.tells (g.D.Desk.seen c.serve_input.new.desk) (g.D.Desk.seen c.tell_cut_behind.new.desk) t.others.replies) t.stops (more_by g.A.AnswersFrames.by_folder g.D.Desk.tells c.serve_input.new.notes.failed c.tell_cut_behind.new.notes.failed _ (g.D.Desk.seen c.serve_input.new.desk) (g.D.Desk.seen c.tell_cut_behind.new.desk) t.noted)))

pub returns-in-Err-clause-counts : goal.returns-in-Err-clause-counts
returns-in-Err-clause-counts g c =
    let t = c.tell_cut_behind.ensures in
    input_counts _ _ _ _ c.tell_cut_behind.result (cut_is_read c.in-Err.cut _ _ c.tell_cut_behind.result t.status c.in-Err.ensures.faultless) c.serve_input.ensures.counted c.serve_input.ensures.until_failure
    (cut_write c.in-Err.cut _ _ _ c.tell_cut_behind.result c.in-Err.ensures.say_cause t.others.failed_says t.status)
    (cut_disk c.in-Err.cut _ _ _ c.tell_cut_behind.result c.in-Err.ensures.disk_cause t.others.failed_calls t.status)
    (cut_run_counted c.in-Err.cut (record { failed = c.tell_cut_behind.new.notes.failed; desk = seen_by g.A.AnswersFrames.by_folder g.D.Desk.tells (g.D.Desk.seen c.tell_cut_behind.new.desk) }) c.tell_cut_behind.result t.status
    c.in-Err.ensures.answers c.new-notes.ensures (more_by g.A.AnswersFrames.by_folder g.D.Desk.tells c.serve_input.new.notes.failed c.tell_cut_behind.new.notes.failed _ (g.D.Desk.seen c.serve_input.new.desk) (g.D.Desk.seen c.tell_cut_behind.new.desk) t.noted))

pub returns-in-Err-clause-undisked : goal.returns-in-Err-clause-undisked
returns-in-Err-clause-undisked g c = λ none.
    cut_undisked c.in-Err.cut c.tell_cut_behind.result c.tell_cut_behind.ensures.status (λ e. c.serve_input.ensures.undisked none (c.in-Err.is ∙ ap Err e))

pub returns-in-Err-clause-alone : goal.returns-in-Err-clause-alone
returns-in-Err-clause-alone g c = λ none. notes_behind (c.serve_input.ensures.alone none) c.tell_cut_behind.ensures.others c.tell_cut_behind.ensures.stops

pub returns-in-Err-clause-room : goal.returns-in-Err-clause-room
returns-in-Err-clause-room g c = held_then c.serve_input.ensures.room (held_none _ _ c.tell_cut_behind.ensures.others.parts c.tell_cut_behind.ensures.others.found)

use Rattle.std.proofs.Common.{ℕ, inl, inr, None, subst, ◌∙◌}
use Rattle.ctrl_core.specs.KeptState.{Cored}
use Rattle.run_notes.specs.NotedLines.{RisesOnce}
use Rattle.ctrl_serve.specs.LookedLines.{line_of}
use Rattle.ctrl_serve.specs.Runs.{IsWriteCaused}
use Rattle.ctrl_serve.proofs.FolderLaws.{audited, looked_alone, unaudited}
use Rattle.serve_loop.proofs.DeskLaws.{LeftAlone-then, noted_alone}
use Rattle.serve_loop.proofs.IntakeLaws.{disk_calm, write_calm}
use Rattle.ctrl_serve.proofs.ClosedFolders.{closed_calm, closed_disk, never_spent}
use Rattle.ctrl_serve.proofs.RunLaws.{line_statuses}
use Rattle.ctrl_serve.proofs.folder.run_look.Goals as goal

pub returns-in-Ok-clause-looks : goal.returns-in-Ok-clause-looks
returns-in-Ok-clause-looks g c =
    inr (audited {seen = g.D.Desk.seen} (line_of c.args.look.now) g.D.Desk.tells c.in-Ok.core.state c.args.desk.now c.peek.new.desk c.say_looked.new.desk c.say_looked.result c.peek.ensures.reads.others c.in-Ok.ensures.valid c.in-Ok.ensures.opens c.say_looked.ensures.says)

pub returns-in-Ok-clause-alone : goal.returns-in-Ok-clause-alone
returns-in-Ok-clause-alone g c = LeftAlone-then (looked_alone c.peek.ensures.reads) c.say_looked.ensures.others.folder

pub returns-in-Ok-clause-write_cause : goal.returns-in-Ok-clause-write_cause
returns-in-Ok-clause-write_cause g c =
    subst (λ (n : ℕ). IsWriteCaused n (g.D.Desk.seen c.say_looked.new.desk).say_faults c.say_looked.result) c.peek.ensures.reads.others.failed_says c.say_looked.ensures.write_cause

pub returns-in-Ok-clause-disk_cause : goal.returns-in-Ok-clause-disk_cause
returns-in-Ok-clause-disk_cause g c =
    let s = c.say_looked.ensures in
    disk_calm _ _ c.say_looked.result (s.others.failed_calls ∙ c.in-Ok.ensures.cause.calm) (line_statuses c.say_looked.result _ _ _ s.says).2

pub returns-in-Ok-clause-counted : goal.returns-in-Ok-clause-counted
returns-in-Ok-clause-counted g c =
    subst (λ (n : ℕ). RisesOnce n (g.D.Desk.seen c.say_looked.new.desk).note_faults) c.peek.ensures.reads.others.failed_notes c.say_looked.ensures.counted

pub returns-in-Err-clause-looks : goal.returns-in-Err-clause-looks
returns-in-Err-clause-looks g c =
    let t = c.tell_closed.ensures in
    inl (unaudited g.D.Desk.tells c.in-Err.fault c.args.desk.now c.peek.new.desk c.tell_closed.new.desk c.tell_closed.result c.peek.ensures.reads t.others t.stops c.in-Err.ensures.fault t.told)

pub returns-in-Err-clause-alone : goal.returns-in-Err-clause-alone
returns-in-Err-clause-alone g c = LeftAlone-then (looked_alone c.peek.ensures.reads) (noted_alone c.tell_closed.ensures.others c.tell_closed.ensures.stops)

pub returns-in-Err-clause-write_cause : goal.returns-in-Err-clause-write_cause
returns-in-Err-clause-write_cause g c =
    let t = c.tell_closed.ensures in
    write_calm _ _ c.tell_closed.result (t.others.failed_says ∙ c.peek.ensures.reads.others.failed_says) (closed_calm c.in-Err.fault c.tell_closed.result _ _ t.told).1

pub returns-in-Err-clause-disk_cause : goal.returns-in-Err-clause-disk_cause
returns-in-Err-clause-disk_cause g c =
    let t = c.tell_closed.ensures in
    closed_disk Cored _ _ _ c.in-Err.fault c.tell_closed.result _ _ c.in-Err.ensures.cause t.others.failed_calls t.told

pub returns-in-Err-clause-counted : goal.returns-in-Err-clause-counted
returns-in-Err-clause-counted g c =
    subst (λ (n : ℕ). RisesOnce n (g.D.Desk.seen c.tell_closed.new.desk).note_faults) c.peek.ensures.reads.others.failed_notes c.tell_closed.ensures.counted

pub tell_closed-requires : goal.tell_closed-requires
tell_closed-requires g c = never_spent None g.D.Desk.tells _ c.in-Err.fault c.in-Err.ensures.fault

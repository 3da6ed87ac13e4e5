use Rattle.std.proofs.Common.{ℕ, subst, ◌∙◌}
use Rattle.journal_core.proofs.RoomLaws.{held_none, held_then}
use Rattle.run_notes.specs.NotedLines.{RisesOnce}
use Rattle.ctrl_serve.proofs.FolderLaws.{Submitted, compaction_disk, compaction_ends, full_reads, compaction_stops, notes_leave}
use Rattle.ctrl_serve.proofs.folder.compact_opened.Goals as goal

pub returns-clause-ends : goal.returns-clause-ends
returns-clause-ends g c =
    let e = c.submit-compacted.ensures in
    let t = c.tell_compaction.ensures in
    let came : Submitted g.D.Desk.tells g.D.Desk.seen g.D.Desk.stopped c.args.kept c.submit-compacted.new.self c.args.desk.now c.submit-compacted.new.desk c.submit-compacted.result = record {
      fresh = c.requires.unspent;
      holds = c.requires.holds;
      stands = c.requires.stands;
      step = e.step;
      unspent = e.unspent;
      held = e.holds;
      made = e.compacted;
      fault = e.fault;
      fits = e.fits;
      stood = e.stands;
    } in
    compaction_ends g.D.Desk.tells c.args.kept c.submit-compacted.new.self c.args.desk.now c.submit-compacted.new.desk c.tell_compaction.new.desk c.submit-compacted.result c.tell_compaction.result
    came e.others t.others.parts t.told

pub returns-clause-still : goal.returns-clause-still
returns-clause-still g c =
    let e = c.submit-compacted.ensures in
    let t = c.tell_compaction.ensures in
    let came : Submitted g.D.Desk.tells g.D.Desk.seen g.D.Desk.stopped c.args.kept c.submit-compacted.new.self c.args.desk.now c.submit-compacted.new.desk c.submit-compacted.result = record {
      fresh = c.requires.unspent;
      holds = c.requires.holds;
      stands = c.requires.stands;
      step = e.step;
      unspent = e.unspent;
      held = e.holds;
      made = e.compacted;
      fault = e.fault;
      fits = e.fits;
      stood = e.stands;
    } in
    full_reads g.D.Desk.tells c.args.kept c.submit-compacted.new.self c.args.desk.now c.submit-compacted.new.desk (g.D.Desk.seen c.tell_compaction.new.desk).reads c.submit-compacted.result _ _ c.tell_compaction.result
    came e.still t.others.parts t.told

pub returns-clause-failed_says : goal.returns-clause-failed_says
returns-clause-failed_says g c = c.tell_compaction.ensures.others.failed_says ∙ c.submit-compacted.ensures.others.failed_says

pub returns-clause-disk_cause : goal.returns-clause-disk_cause
returns-clause-disk_cause g c =
    compaction_disk _ _ _ c.submit-compacted.result c.tell_compaction.result _ _ c.submit-compacted.ensures.cause c.tell_compaction.ensures.others.failed_calls c.tell_compaction.ensures.told

pub returns-clause-counted : goal.returns-clause-counted
returns-clause-counted g c =
    subst (λ (n : ℕ). RisesOnce n (g.D.Desk.seen c.tell_compaction.new.desk).note_faults) c.submit-compacted.ensures.others.failed_notes c.tell_compaction.ensures.counted

pub returns-clause-quiet : goal.returns-clause-quiet
returns-clause-quiet g c = notes_leave c.submit-compacted.ensures.quiet c.tell_compaction.ensures.others c.tell_compaction.ensures.stops

pub returns-clause-stops : goal.returns-clause-stops
returns-clause-stops g c = λ yes.
    notes_leave (compaction_stops c.args.kept (c.submit-compacted.ensures.stops c.requires.unspent yes)) c.tell_compaction.ensures.others c.tell_compaction.ensures.stops

pub returns-clause-room : goal.returns-clause-room
returns-clause-room g c = held_then c.submit-compacted.ensures.room (held_none _ _ c.tell_compaction.ensures.others.parts c.tell_compaction.ensures.others.found)

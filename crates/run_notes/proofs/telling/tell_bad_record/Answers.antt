use Rattle.std.proofs.Common.{ℕ, List, [], ◌++◌, subst, ◌∙◌}
use Rattle.run_notes.specs.Notes.{status_lines}
use Rattle.run_notes.specs.NotesSoFar.{NotesMore}
use Rattle.run_notes.proofs.NoteLaws.{more_then}
use Rattle.run_notes.proofs.telling.tell_bad_record.Goals as goal

pub returns-clause-noted : goal.returns-clause-noted
returns-clause-noted g c =
    let status = c.status_of-status.result in
    let seen = g.D.Desk.seen in
    let last = subst (λ (l : List ℕ). NotesMore c.write.new.self.failed c.write-2.new.self.failed l (seen c.write.new.desk) (seen c.write-2.new.desk))
    c.status_line.ensures c.write-2.ensures.noted in
    let both = more_then c.args.notes.now.failed c.write.new.self.failed c.write-2.new.self.failed c.as_bytes.result.now (status_lines [] status)
    (seen c.args.desk.now) (seen c.write.new.desk) (seen c.write-2.new.desk) c.write.ensures.noted last in
    subst (λ (l : List ℕ). NotesMore c.args.notes.now.failed c.write-2.new.self.failed (l ++ status_lines [] status) (seen c.args.desk.now) (seen c.write-2.new.desk))
    (c.as_bytes.ensures.value ∙ c.in_ok-line.ensures) both

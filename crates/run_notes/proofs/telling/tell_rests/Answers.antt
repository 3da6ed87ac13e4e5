use Rattle.std.proofs.Common.{ℕ, List, [], subst, ◌∙◌}
use Rattle.session_mux.specs.Completion.{end_of}
use Rattle.ziti_outside.proofs.MomentLaws.{Elapses-then}
use Rattle.run_notes.specs.Notes.{rest_lines, status_lines}
use Rattle.run_notes.specs.NotesSoFar.{NotesMore}
use Rattle.run_notes.proofs.NoteLaws.{more_then, told_lines, OnlyNotes-then}
use Rattle.run_notes.proofs.telling.tell_rests.Goals as goal

pub returns-clause-noted : goal.returns-clause-noted
returns-clause-noted g c =
    let rests : List ℕ = rest_lines (end_of c.args.mux.now) c.args.sessions.now.closed in
    let status = c.status_of-status.result in
    let seen = g.D.Desk.seen in
    let last = subst (λ (l : List ℕ). NotesMore c.write.new.self.failed c.write-2.new.self.failed l (seen c.write.new.desk) (seen c.write-2.new.desk))
    c.status_line.ensures c.write-2.ensures.noted in
    let both = more_then c.args.notes.now.failed c.write.new.self.failed c.write-2.new.self.failed c.as_bytes.result.now (status_lines [] status)
    (seen c.args.desk.now) (seen c.write.new.desk) (seen c.write-2.new.desk) c.write.ensures.noted last in
    let lines = c.as_bytes.ensures.value in
    subst (λ (l : List ℕ). NotesMore c.args.notes.now.failed c.write-2.new.self.failed l (seen c.args.desk.now) (seen c.write-2.new.desk))
    (told_lines status rests c.as_bytes.result.now (λ e. lines ∙ c.in_ok-lines.ensures.lines.0 e) (λ e. lines ∙ c.in_ok-lines.ensures.lines.1 e)) both

pub returns-clause-others : goal.returns-clause-others
returns-clause-others g c = OnlyNotes-then c.write.ensures.others c.write-2.ensures.others

pub returns-clause-stops : goal.returns-clause-stops
returns-clause-stops g c =
    Elapses-then (λ image taken. ⊥) c.write.ensures.stops c.write-2.ensures.stops (λ image taken none. none) (λ image taken none. none)

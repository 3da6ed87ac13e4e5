use Rattle.std.proofs.Common.{ℕ, List, ◌∙◌, subst}
use Rattle.run_notes.specs.NotedLines.{NotesLines}
use Rattle.run_notes.proofs.telling.tell_damage.Goals as goal

pub returns-clause-told : goal.returns-clause-told
returns-clause-told g c =
    let d = g.D.Desk in
    subst (λ (l : List ℕ). NotesLines l (d.seen c.args.desk.now) (d.seen c.note_lines.new.desk)) (c.as_bytes.ensures.value ∙ c.as_str.ensures.value ∙ c.damaged_line-line.ensures) c.note_lines.ensures.noted

use Rattle.std.proofs.Common.{ℕ, List, ◌∙◌, subst}
use Rattle.run_notes.specs.NotedLines.{NotesLines}
use Rattle.zitilook.proofs.comparing.tell_other_damage.Goals as goal

pub returns-clause-noted : goal.returns-clause-noted
returns-clause-noted g c =
    let d = g.D.Desk in
    subst (λ (l : List ℕ). NotesLines l (d.seen c.args.desk.now) (d.seen c.note_lines.new.desk))
    (c.as_bytes.ensures.value ∙ c.as_str.ensures.value ∙ c.other_damaged_note-note.ensures) c.note_lines.ensures.noted

use Rattle.std.proofs.Common.{Bool, refl, sym, subst}
use Rattle.std.specs.Prelude.{not}
use Rattle.run_notes.specs.NotesSoFar.{NotesMore}
use Rattle.run_notes.proofs.NoteLaws.{more_failed, more_noted}
use Rattle.run_notes.proofs.notes.Notes.write.Goals as goal

pub returns-then-not-self-clause-noted : goal.returns-then-not-self-clause-noted
returns-then-not-self-clause-noted g c =
    let e = c.note_lines.ensures in
    let told : Bool = c.note_lines.result in
    subst (λ (f : Bool). NotesMore f (not told) c.args.lines.now (g.D.Desk.seen c.args.desk.now) (g.D.Desk.seen c.note_lines.new.desk))
    (sym c.if-not-self.true)
    (more_noted (not told) told c.args.lines.now _ _ refl (λ none. (e.none none).1) e.noted e.cause e.counted)

pub returns-else-not-self-clause-noted : goal.returns-else-not-self-clause-noted
returns-else-not-self-clause-noted g c =
    let desk = g.D.Desk.seen c.args.desk.now in
    subst (λ (f : Bool). NotesMore f f c.args.lines.now desk desk) (sym c.if-not-self.false) (more_failed c.args.lines.now desk)

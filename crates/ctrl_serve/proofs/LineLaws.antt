-- What was said and noted of one line: whole, cut short, or not made for want of memory.
use Rattle.std.proofs.Common.{◌≡◌, ℕ, List, [], refl, sym, subst}
use Rattle.std.specs.declared.option.Option.{Option}
use Rattle.ziti_outside.specs.Told.{Took, TookFront}
use Rattle.ziti_outside.specs.Views.{Seen}
use Rattle.ziti_outside.proofs.Moves.{Took-none}
use Rattle.run_notes.specs.declared.status.Status.{Status}
use Rattle.run_notes.specs.declared.status.Status.TheVariants.{Done, WriteFault, NoMemory}
use Rattle.run_notes.specs.NotedLines.{NotesLines}
use Rattle.run_notes.specs.Notes.{status_lines}
use Rattle.run_notes.proofs.NoteLaws.{notes_from, notes_none}
use Rattle.ctrl_serve.specs.Loads.{SaysOneLine}

-- Nothing was noted where the notes are as they were.
notes_same : (a b : Seen) → b.noted ≡ a.noted → b.note_faults ≡ a.note_faults → NotesLines [] a b
notes_same a b q r = notes_from [] a b b q r (notes_none b)

pub line_whole : (line : List ℕ) (a b : Seen) → Took a.said b.said line → b.noted ≡ a.noted → b.note_faults ≡ a.note_faults → SaysOneLine line a b Done
line_whole line a b took q r = record { said = line; took = took; says = refl; notes = notes_same a b q r }

pub line_cut : (line : List ℕ) (a mid b : Seen) (status : Status) → TookFront a.said mid.said line → mid.noted ≡ a.noted → mid.note_faults ≡ a.note_faults → status ≡ WriteFault
    → b.said ≡ mid.said → NotesLines (status_lines [] status) mid b → SaysOneLine line a b status
line_cut line a mid b status front q r is quiet noted =
    subst (λ (u : Status). SaysOneLine line a b u) (sym is) (record {
      said = front.0;
      took = subst (λ (x : Option (List ℕ)). Took a.said x front.0) (sym quiet) front.2;
      says = front.1;
      notes = notes_from (status_lines [] WriteFault) a mid b q r (subst (λ (u : Status). NotesLines (status_lines [] u) mid b) is noted);
    })

pub line_unmade : (line : List ℕ) (a b : Seen) (status : Status) → status ≡ NoMemory → b.said ≡ a.said → NotesLines (status_lines [] status) a b → SaysOneLine line a b status
line_unmade line a b status is quiet noted =
    subst (λ (u : Status). SaysOneLine line a b u) (sym is) (record {
      said = [];
      took = subst (λ (x : Option (List ℕ)). Took a.said x []) (sym quiet) (Took-none a.said);
      says = refl;
      notes = subst (λ (u : Status). NotesLines (status_lines [] u) a b) is noted;
    })

-- What was noted where a run over plain input was cut short: one line.
use Rattle.std.specs.Prelude.{false}
use Rattle.std.proofs.Common.{◌≡◌, ℕ, List, [], ◌∷◌, ◌++◌, take, refl, sym, ap, ◌∙◌, subst}
use Rattle.std.specs.List.{list_any}
use Rattle.std.specs.declared.option.Option.{Option}
use Rattle.serve_loop.specs.Answerers.{Answerer}
use Rattle.session_mux.specs.declared.events.Event.{Event}
use Rattle.session_mux.specs.declared.events.Event.TheVariants.{Arrived}
use Rattle.session_mux.specs.declared.sessions.Form.TheVariants.{Plain}
use Rattle.session_mux.specs.Completion.{is_fault}
use Rattle.run_notes.specs.declared.status.Status.TheVariants.{WriteFault, DiskFault, NoMemory}
use Rattle.run_notes.specs.Inputs.{events_in}
use Rattle.run_notes.specs.NotedLines.{NotesLines}
use Rattle.run_notes.specs.Notes.{status_lines}
use Rattle.run_notes.proofs.PlainInputs.{plain_calm}
use Rattle.serve_loop.specs.ServedInputs.{Serves, taking_of}
use Rattle.serve_loop.proofs.EndingLaws.{no_fault_lines}
use Rattle.ziti_outside.specs.Views.{Seen}

calm_before : (used : List ℕ) (es later unanswered : List Event) (e : Event) → es ++ unanswered ≡ events_in Plain used → unanswered ≡ e ∷ later → list_any is_fault es ≡ false
calm_before used es later unanswered e split first = plain_calm used es later e (ap (λ (us : List Event). es ++ us) (sym first) ∙ split)

pub unsaid_notes : {M : Type 0} (answerer : Answerer M) (m : M) (most : ℕ) (l r : Option (List ℕ)) (c d : Seen) → Serves (taking_of Plain most) answerer m l r c d WriteFault
    → NotesLines (status_lines [] WriteFault) c d
unsaid_notes answerer m most l r c d s =
    let calm = calm_before (take most s.taken) s.answered s.says.later s.unanswered (Arrived s.says.session s.says.frame) s.split s.says.first in
    subst (λ (lines : List ℕ). NotesLines lines c d) (ap (λ (first : List ℕ). first ++ status_lines [] WriteFault) (no_fault_lines s.answered calm)) s.notes

pub disk_notes : {M : Type 0} (answerer : Answerer M) (m : M) (most : ℕ) (l r : Option (List ℕ)) (c d : Seen) → Serves (taking_of Plain most) answerer m l r c d DiskFault
    → NotesLines (status_lines [] DiskFault) c d
disk_notes answerer m most l r c d s =
    let calm = calm_before (take most s.taken) s.answered s.says.later s.unanswered (Arrived s.says.session s.says.frame) s.split s.says.first in
    subst (λ (lines : List ℕ). NotesLines lines c d) (ap (λ (first : List ℕ). first ++ status_lines [] DiskFault) (no_fault_lines s.answered calm)) s.notes

pub memory_notes : {M : Type 0} (answerer : Answerer M) (m : M) (most : ℕ) (l r : Option (List ℕ)) (c d : Seen) → Serves (taking_of Plain most) answerer m l r c d NoMemory
    → NotesLines (status_lines [] NoMemory) c d
memory_notes answerer m most l r c d s =
    subst (λ (lines : List ℕ). NotesLines lines c d) (ap (λ (first : List ℕ). first ++ status_lines [] NoMemory) (no_fault_lines s.answered (s.says.calm refl))) s.notes

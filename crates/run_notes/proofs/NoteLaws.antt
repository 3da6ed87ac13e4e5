-- What was noted, line after line.
use Rattle.std.specs.Prelude.{not, cond, IfOk}
use Rattle.std.proofs.Common.{◌≡◌, ℕ, zero, suc, Bool, true, false, List, [], ◌++◌, get_or, Ok, Err, codes, decimal, refl, sym, ap, ◌∙◌, subst, append_assoc, append-nil, arith}
use Rattle.std.proofs.Math.ListN.{get_or-map}
use Rattle.std.proofs.lemmas.Bool.{false≢true}
use Rattle.session_mux.specs.declared.sessions.Session.{Session}
use Rattle.session_mux.specs.declared.sessions.Session.TheVariants.{Unopened}
use Rattle.session_mux.specs.Completion.{Standing, session_at, settled_session, end_of, rest_len}
use Rattle.session_mux.specs.MuxSteps.{HasMoved}
use Rattle.session_mux.proofs.EventLaws.{rest_settled}
use Rattle.session_mux.proofs.TableLaws.{none_each}
use Rattle.run_notes.specs.Inputs.{held_or_closed, rest_at}
use Rattle.std.specs.declared.option.Option.{Option}
use Rattle.std.specs.declared.result.Result.{Result}
use Rattle.ziti_outside.specs.Causes.{Rose}
use Rattle.ziti_outside.specs.Told.{Took, TookFront}
use Rattle.ziti_outside.proofs.Moves.{Took-none, Took-then, IsFront-none, IsFront-all, IsFront-then, IsFront-longer}
use Rattle.run_notes.specs.declared.status.Status.{Status}
use Rattle.run_notes.specs.declared.status.Status.TheVariants.{Done, Usage, BadInput, Truncated, ReadFault, WriteFault, DiskFault, Damaged, NoMemory, InputTooLong, FolderFull}
use Rattle.run_notes.specs.declared.ends.End.{End}
use Rattle.run_notes.specs.declared.ends.End.TheVariants.{Whole, More, Fault}
use Rattle.ziti_outside.specs.Untouched.{OnlyNotes}
use Rattle.std.specs.declared.alloc.AllocError.{AllocError}
use Rattle.run_notes.specs.Endings.{IsStuckAt, status_at}
use Rattle.run_notes.specs.NotedLines.{RisesOnce, NotesLines, IsNoteCaused}
use Rattle.run_notes.specs.Notes.{note_of, bad_lines, ending_lines, status_lines, session_note, session_rest_lines, trace_note, trace_rest_lines}
use Rattle.run_notes.specs.NotesSoFar.{IsNoted, NotesMore}
use Rattle.ziti_outside.specs.Views.{Seen, Stopped}

-- Nothing was noted where there was nothing to note.
pub notes_none : (a : Seen) → NotesLines [] a a
notes_none a = record { part = ([], IsFront-none [], Took-none a.noted); whole = λ _. Took-none a.noted; none = λ _. (refl, refl) }

-- What was noted since a desk that had noted the same.
pub notes_from : (lines : List ℕ) (a b c : Seen) → b.noted ≡ a.noted → b.note_faults ≡ a.note_faults → NotesLines lines b c → NotesLines lines a c
notes_from lines a b c q r noted = record {
  part = subst (λ (x : Option (List ℕ)). TookFront x c.noted lines) q noted.part;
  whole = λ calm. subst (λ (x : Option (List ℕ)). Took x c.noted lines) q (noted.whole (λ rose. calm (subst (λ (n : ℕ). Rose n c.note_faults) r rose)));
  none = λ e. ((noted.none e).0 ∙ q, (noted.none e).1 ∙ r);
}

-- ---- what a run noted so far

-- Nothing at first.
pub noted_none : (a : Seen) → IsNoted false [] a a
noted_none a = (Took-none a.noted, refl, λ _. refl)

-- What was noted so far, as lines.
pub noted_lines : (failed : Bool) (lines : List ℕ) (a b : Seen) → IsNoted failed lines a b → NotesLines lines a b × RisesOnce a.note_faults b.note_faults
noted_lines false lines a b noted = (
  record { part = (lines, IsFront-all lines, noted.0); whole = λ _. noted.0; none = λ e. (noted.2 e, noted.1) },
  record { later = omega (arith, noted.1); once = omega (arith, noted.1) },
)
noted_lines true lines a b noted = (record { part = noted.0; whole = λ calm. absurd (calm noted.1); none = λ e. absurd (noted.3 e) }, noted.2)

-- Lines behind lines.
pub more_then : (f g h : Bool) (first last : List ℕ) (a b c : Seen) → NotesMore f g first a b → NotesMore g h last b c → NotesMore f h (first ++ last) a c
more_then f g h first last a b c p q = λ before o noted.
    subst (λ (l : List ℕ). IsNoted h l o c) (append_assoc before first last) (q (before ++ first) o (p before o noted))

-- No lines leave what was noted.
pub more_none : (f : Bool) (a : Seen) → NotesMore f f [] a a
more_none f a = λ before o noted. subst (λ (l : List ℕ). IsNoted f l o a) (sym (append-nil before)) noted

-- So it was noted still, where the notes are as they were.
noted_still : (f : Bool) (lines : List ℕ) (o a b : Seen) → b.noted ≡ a.noted → b.note_faults ≡ a.note_faults → IsNoted f lines o a → IsNoted f lines o b
noted_still false lines o a b q r noted = (subst (λ (x : Option (List ℕ)). Took o.noted x lines) (sym q) noted.0, r ∙ noted.1, λ e. q ∙ noted.2 e)
noted_still true lines o a b q r noted = (
  subst (λ (x : Option (List ℕ)). TookFront o.noted x lines) (sym q) noted.0,
  subst (λ (k : ℕ). Rose o.note_faults k) (sym r) noted.1,
  subst (λ (k : ℕ). RisesOnce o.note_faults k) (sym r) noted.2,
  noted.3,
)

-- These lines still are, where the notes are as they were behind them.
pub more_still : (f g : Bool) (lines : List ℕ) (a b c : Seen) → c.noted ≡ b.noted → c.note_faults ≡ b.note_faults → NotesMore f g lines a b → NotesMore f g lines a c
more_still f g lines a b c q r more = λ before o noted. noted_still g (before ++ lines) o b c q r (more before o noted)

-- Where the desk and what is known of it were left, too.
pub more_left : (f g : Bool) (a b : Seen) → g ≡ f → b.noted ≡ a.noted → b.note_faults ≡ a.note_faults → NotesMore f g [] a b
more_left f g a b p q r = rw p (more_still f f [] a a b q r (more_none f a))

-- Once a note failed, no lines are noted.
pub more_failed : (lines : List ℕ) (a : Seen) → NotesMore true true lines a a
more_failed lines a = λ before o noted.
    ((noted.0.0, IsFront-longer noted.0.0 before lines (before ++ lines) noted.0.1 refl, noted.0.2), noted.1, noted.2, λ e. noted.3 (none_each before lines e).0)

-- Where none failed, the lines are noted, or this note fails, as none of no lines does.
pub more_noted : (failed : Bool) (told : Bool) (lines : List ℕ) (a b : Seen) → failed ≡ not told → (lines ≡ [] → told ≡ true) → NotesLines lines a b → IsNoteCaused lines a b told → RisesOnce a.note_faults b.note_faults
    → NotesMore false failed lines a b
more_noted failed true lines a b is good noted caused once =
    subst (λ (f : Bool). NotesMore false f lines a b) (sym is) (λ before o so. (
      Took-then o.noted a.noted b.noted before lines so.0 caused.0,
      caused.1 ∙ so.1,
      λ e. (noted.none (none_each before lines e).1).0 ∙ so.2 (none_each before lines e).0,
    ))
more_noted failed false lines a b is good noted caused once =
    subst (λ (f : Bool). NotesMore false f lines a b) (sym is)
    (λ before o so. (
      (before ++ noted.part.0, IsFront-then before noted.part.0 lines (before ++ lines) noted.part.1 refl, Took-then o.noted a.noted b.noted before noted.part.0 so.0 noted.part.2),
      subst (λ (k : ℕ). Rose k b.note_faults) so.1 caused,
      subst (λ (k : ℕ). RisesOnce k b.note_faults) so.1 once,
      λ e. false≢true (good (none_each before lines e).1),
    ))

-- The parts of a session's note, in a row.
pub fault_text : (session word at : List ℕ)
    → codes "zitictl: session " ++ (session ++ (codes ": " ++ (word ++ (codes " at " ++ (at ++ codes "\n"))))) ≡ note_of (codes "session " ++ (session ++ (codes ": " ++ (word ++ (codes " at " ++ at)))))
fault_text session word at =
    ap (λ (l : List ℕ). codes "zitictl: session " ++ l)
    (ap (λ (l : List ℕ). session ++ (codes ": " ++ l)) (sym (append_assoc word (codes " at " ++ at) (codes "\n")))
    ∙ sym (append_assoc session (codes ": " ++ (word ++ (codes " at " ++ at))) (codes "\n")))

pub rest_text : (session left : List ℕ)
    → codes "zitictl: session " ++ (session ++ (codes ": " ++ (left ++ codes " bytes left\n"))) ≡ note_of (codes "session " ++ (session ++ (codes ": " ++ (left ++ codes " bytes left"))))
rest_text session left =
    ap (λ (l : List ℕ). codes "zitictl: session " ++ l)
    (ap (λ (l : List ℕ). session ++ (codes ": " ++ l)) (sym (append_assoc left (codes " bytes left") (codes "\n")))
    ∙ sym (append_assoc session (codes ": " ++ (left ++ codes " bytes left")) (codes "\n")))

-- Those of a trace's notes.
pub bad_text : (at : List ℕ) → codes "zitictl: trace: BadRecord at " ++ (at ++ codes "\n") ≡ note_of (codes "trace: " ++ (codes "BadRecord at " ++ at))
bad_text at = refl

pub trace_text : (left : List ℕ) → codes "zitictl: trace: " ++ (left ++ codes " bytes left\n") ≡ note_of (codes "trace: " ++ (left ++ codes " bytes left"))
trace_text left = ap (λ (l : List ℕ). codes "zitictl: trace: " ++ l) (sym (append_assoc left (codes " bytes left") (codes "\n")))

-- ---- what is left

-- The lines of a rest that is not empty.
pub some_rest : (s n : ℕ) → (n ≡ 0 → ⊥) → session_rest_lines s n ≡ session_note s (decimal n ++ codes " bytes left")
some_rest s zero some = absurd (some refl)
some_rest s (suc n) some = refl

pub some_trace_rest : (n : ℕ) → (n ≡ 0 → ⊥) → trace_rest_lines n ≡ trace_note (decimal n ++ codes " bytes left")
some_trace_rest zero some = absurd (some refl)
some_trace_rest (suc n) some = refl

-- Where all was moved, a session holds what is left of it at the end.
rest_moved : (st : Standing) (s : ℕ) → HasMoved st → rest_len (session_at (end_of st).sessions s) ≡ rest_len (session_at st.sessions s)
rest_moved st s moved =
    ap (λ (xs : List Session). rest_len (session_at xs s)) moved
    ∙ ap rest_len (get_or-map settled_session st.sessions s Unopened)
    ∙ rest_settled (session_at st.sessions s)

pub rest_held : (st : Standing) (closed : List ℕ) (s held : ℕ) → HasMoved st → held ≡ rest_len (session_at st.sessions s)
    → held_or_closed held (get_or closed s 0) ≡ rest_at (end_of st) closed s
rest_held st closed s held moved e = ap (λ (n : ℕ). held_or_closed n (get_or closed s 0)) (e ∙ sym (rest_moved st s moved))

pub some_held : (n closed : ℕ) → (n ≡ 0 → ⊥) → n ≡ held_or_closed n closed
some_held zero closed some = absurd (some refl)
some_held (suc n) closed some = refl

-- ---- how a run ended

-- Only notes were written, twice.
pub OnlyNotes-then : {D : Type 0} {seen : D → Seen} {stopped : D → Stopped} {old mid new : D}
    → OnlyNotes seen stopped old mid → OnlyNotes seen stopped mid new → OnlyNotes seen stopped old new
OnlyNotes-then first second = record {
  replies = second.replies ∙ first.replies;
  failed_says = second.failed_says ∙ first.failed_says;
  parts = second.parts ∙ first.parts;
  found = λ image left. first.found image (second.found image left);
  failed_calls = second.failed_calls ∙ first.failed_calls;
}

-- The lines of a status are those of the rests where it is told by them, and else its own.
pub told_lines : (status : Status) (rests lines : List ℕ) → (status ≡ Truncated → lines ≡ rests) → ((status ≡ Truncated → ⊥) → lines ≡ []) → lines ++ status_lines [] status ≡ status_lines rests status
told_lines Done rests lines some none = ap (λ (l : List ℕ). l ++ status_lines [] Done) (none (λ e. cc))
told_lines Usage rests lines some none = ap (λ (l : List ℕ). l ++ status_lines [] Usage) (none (λ e. cc))
told_lines BadInput rests lines some none = ap (λ (l : List ℕ). l ++ status_lines [] BadInput) (none (λ e. cc))
told_lines Truncated rests lines some none = append-nil lines ∙ some refl
told_lines ReadFault rests lines some none = ap (λ (l : List ℕ). l ++ status_lines [] ReadFault) (none (λ e. cc))
told_lines WriteFault rests lines some none = ap (λ (l : List ℕ). l ++ status_lines [] WriteFault) (none (λ e. cc))
told_lines DiskFault rests lines some none = ap (λ (l : List ℕ). l ++ status_lines [] DiskFault) (none (λ e. cc))
told_lines Damaged rests lines some none = ap (λ (l : List ℕ). l ++ status_lines [] Damaged) (none (λ e. cc))
told_lines NoMemory rests lines some none = ap (λ (l : List ℕ). l ++ status_lines [] NoMemory) (none (λ e. cc))
told_lines InputTooLong rests lines some none = ap (λ (l : List ℕ). l ++ status_lines [] InputTooLong) (none (λ e. cc))
told_lines FolderFull rests lines some none = ap (λ (l : List ℕ). l ++ status_lines [] FolderFull) (none (λ e. cc))

-- The lines of a bad record.
abbrev pub bad_line_at : ℕ → List ℕ
bad_line_at at = trace_note (codes "BadRecord at " ++ decimal at)

stuck_line : (st : Standing) (at : ℕ) → IsStuckAt st at → bad_lines (end_of st) ≡ bad_line_at at
stuck_line st at stuck =
    ap (λ (b : Bool). cond b (bad_line_at (end_of st).before) []) stuck.bad ∙ ap bad_line_at stuck.place

stuck_lines : (st : Standing) (at : ℕ) (closed : List ℕ) (end : End) → IsStuckAt st at
    → bad_line_at at ++ status_lines [] (status_at true false end) ≡ ending_lines (end_of st) closed (status_at true false end)
stuck_lines st at closed Whole stuck = ap (λ (l : List ℕ). l ++ []) (sym (stuck_line st at stuck))
stuck_lines st at closed More stuck = ap (λ (l : List ℕ). l ++ []) (sym (stuck_line st at stuck))
stuck_lines st at closed Fault stuck = ap (λ (l : List ℕ). l ++ status_lines [] ReadFault) (sym (stuck_line st at stuck))

pub stuck_told : (r : Result Status AllocError) (st : Standing) (at : ℕ) (closed : List ℕ) (end : End) (f g : Bool) (a b : Seen) → IsStuckAt st at
    → IfOk r (λ s. s ≡ status_at true false end) → IfOk r (λ s. NotesMore f g (bad_line_at at ++ status_lines [] s) a b) → IfOk r (λ s. NotesMore f g (ending_lines (end_of st) closed s) a b)
stuck_told (Ok s) st at closed end f g a b stuck is noted =
    subst (λ (u : Status). NotesMore f g (ending_lines (end_of st) closed u) a b) (sym is)
    (subst (λ (l : List ℕ). NotesMore f g l a b) (stuck_lines st at closed end stuck)
    (subst (λ (u : Status). NotesMore f g (bad_line_at at ++ status_lines [] u) a b) is noted))
stuck_told (Err e) st at closed end f g a b stuck is noted = tt

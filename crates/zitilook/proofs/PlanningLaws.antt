-- What was said of a plan, and how a run that plans ended.
use Rattle.std.specs.declared.alloc.AllocError.{AllocError}
use Rattle.std.proofs.Common.{◌≡◌, ◌⊎◌, inl, inr, ℕ, true, false, List, [], ◌∷◌, Result, Ok, Err, IfOk, IfErr, OnOk, None, Some, Option, refl, sym, ◌∙◌, subst}
use Rattle.std.proofs.lemmas.Bool.{iff_false}
use Rattle.ziti_outside.specs.Causes.{Rose}
use Rattle.ziti_outside.specs.Told.{Took, TookFront}
use Rattle.ziti_outside.specs.Untouched.{OnlyNotes}
use Rattle.ziti_outside.specs.Views.{Seen, Stopped}
use Rattle.ctrl_model.specs.State.{State}
use Rattle.ctrl_keep.specs.declared.faults.KeepFault.{KeepFault}
use Rattle.ctrl_keep.specs.declared.faults.KeepFault.TheVariants as keep
use Rattle.frame_lines.specs.declared.lines.LineFault.{LineFault}
use Rattle.frame_lines.specs.TextLines.{lines_of}
use Rattle.frame_lines.specs.TextReading.{fault_said}
use Rattle.change_plans.specs.PlannedLines.{RefusedLine, planned}
use Rattle.change_lines.specs.declared.planning.Plan.{Plan}
use Rattle.change_lines.specs.PlanTexts.{IsPlan, plan_text}
use Rattle.run_notes.specs.NotedLines.{FindsNoMore, NotesLines}
use Rattle.run_notes.proofs.NoteLaws.{notes_from}
use Rattle.zitilook.specs.declared.intake.Cut.{Cut}
use Rattle.zitilook.specs.declared.intake.Cut.TheVariants as cuts
use Rattle.zitilook.specs.declared.status.Status.{Status}
use Rattle.zitilook.specs.declared.status.Status.TheVariants.{Done, Usage, Found, Unknown, Differs, Refused, ReadFault, WriteFault, DiskFault, Damaged, NoMemory}
use Rattle.zitilook.specs.Intake.{FaultAt, cut_status}
use Rattle.zitilook.specs.Looks.{Refuses}
use Rattle.zitilook.specs.Notes.{line_note, notes_of}
use Rattle.zitilook.specs.PlanSteps.{IsPlanned}
use Rattle.zitilook.specs.Plans.{Decides, IsCutShort, SaysPlan, TellsInput, TellsPlan}
use Rattle.zitilook.specs.Steps.{EndsSo, TellsClosed}
use Rattle.zitilook.proofs.FolderLaws.{noted_ends}
use Rattle.zitilook.proofs.SaidLaws.{noted_since, refused_from}

-- ---- what a plan says of the commands

-- commands are refused where the plan says so
pub some_refused : (s : State) (input : List ℕ) (p : Plan) → IsPlan s input p → p.refuses ≡ true → (planned (lines_of input) s).1 ≡ [] → ⊥
some_refused s input p is refuses = is.refuses.0 refuses

none_of : (refused : List RefusedLine) → ((refused ≡ [] → ⊥) → ⊥) → refused ≡ []
none_of [] none = refl
none_of (r ∷ rs) none = absurd (none (λ e. absurd cc))

-- and none where it does not
pub none_refused : (s : State) (input : List ℕ) (p : Plan) → IsPlan s input p → p.refuses ≡ false → (planned (lines_of input) s).1 ≡ []
none_refused s input p is none = none_of (planned (lines_of input) s).1 (iff_false is.refuses none)

-- ---- what was said of it

decided : (status : Status) (s : State) (input : List ℕ) (before now : Option (List ℕ)) → (plan_text s input ≡ [] → ⊥) → Decides status s input
    → Took before now (plan_text s input) → SaysPlan status s input before now
decided Done s input before now some is took = absurd (some is)
decided Differs s input before now some is took = (is, took)
decided Refused s input before now some is took = (is, took)
decided Usage s input before now some is took = absurd is
decided Found s input before now some is took = absurd is
decided Unknown s input before now some is took = absurd is
decided ReadFault s input before now some is took = absurd is
decided WriteFault s input before now some is took = absurd is
decided DiskFault s input before now some is took = absurd is
decided Damaged s input before now some is took = absurd is
decided NoMemory s input before now some is took = absurd is

-- there is nothing to tell
pub plan_none : (s : State) (input : List ℕ) (status : Status) (a b : Seen) → status ≡ Done → plan_text s input ≡ [] → b.said ≡ a.said → NotesLines (notes_of Done) a b
    → TellsPlan s input a b status
plan_none s input status a b e none same noted = record {
  says = subst (λ (t : Status). SaysPlan t s input a.said b.said) (sym e) (none, same);
  notes = subst (λ (t : Status). NotesLines (notes_of t) a b) (sym e) noted;
}

-- all of it was taken
pub plan_whole : (s : State) (input : List ℕ) (is status : Status) (a b c : Seen) → status ≡ is → (plan_text s input ≡ [] → ⊥) → Decides is s input → Took a.said b.said (plan_text s input) → c.said ≡ b.said
    → b.noted ≡ a.noted → b.note_faults ≡ a.note_faults → NotesLines (notes_of is) b c → TellsPlan s input a c status
plan_whole s input is status a b c e some decides took same q r noted = record {
  says = subst (λ (t : Status). SaysPlan t s input a.said c.said) (sym e)
      (decided is s input a.said c.said some decides (subst (λ (now : Option (List ℕ)). Took a.said now (plan_text s input)) (sym same) took));
  notes = noted_since is status a b c e q r noted;
}

-- a front of it was taken
pub plan_cut : (s : State) (input : List ℕ) (status : Status) (a b c : Seen) → status ≡ WriteFault → (plan_text s input ≡ [] → ⊥) → TookFront a.said b.said (plan_text s input) → c.said ≡ b.said
    → b.noted ≡ a.noted → b.note_faults ≡ a.note_faults → NotesLines (notes_of WriteFault) b c → TellsPlan s input a c status
plan_cut s input status a b c e some took same q r noted = record {
  says = subst (λ (t : Status). SaysPlan t s input a.said c.said) (sym e) (some, subst (λ (now : Option (List ℕ)). TookFront a.said now (plan_text s input)) (sym same) took);
  notes = noted_since WriteFault status a b c e q r noted;
}

-- there was no memory for it
pub unplanned : (fault : Option LineFault) (s : State) (input : List ℕ) (status : Status) (a b : Seen) → status ≡ NoMemory → b.said ≡ a.said → NotesLines (notes_of NoMemory) a b
    → TellsInput fault s input a b status
unplanned None s input status a b e same noted = record {
  says = subst (λ (t : Status). SaysPlan t s input a.said b.said) (sym e) same;
  notes = subst (λ (t : Status). NotesLines (notes_of t) a b) (sym e) noted;
}
unplanned (Some fault) s input status a b e same noted = record { says_nothing = same; why = inr (e, noted) }

says_since : (status : Status) (s : State) (input : List ℕ) (a b c : Seen) → b.said ≡ a.said → SaysPlan status s input b.said c.said → SaysPlan status s input a.said c.said
says_since status s input a b c same says = subst (λ (x : Option (List ℕ)). SaysPlan status s input x c.said) same says

-- what was told since a desk that had said and noted the same
pub input_from : (fault : Option LineFault) (s : State) (input : List ℕ) (status : Status) (a b c : Seen) → b.said ≡ a.said → b.noted ≡ a.noted → b.note_faults ≡ a.note_faults
    → TellsInput fault s input b c status → TellsInput fault s input a c status
input_from None s input status a b c same q r told = record {
  says = says_since status s input a b c same told.says;
  notes = notes_from (notes_of status) a b c q r told.notes;
}
input_from (Some fault) s input status a b c same q r told = refused_from _ status a b c same q r told

-- ---- what the planning came to

pub planned_so : (planned : Result (Result Plan LineFault) AllocError) (s : State) (input : List ℕ) → IfOk planned (λ ended. IfErr ended (λ fault. fault_said input ≡ Some fault))
    → IfOk planned (λ ended. OnOk ended (fault_said input ≡ None)) → IfOk planned (λ ended. IfOk ended (λ p. IsPlan s input p)) → IsPlanned planned s input
planned_so (Ok (Ok p)) s input fault faultless is = (faultless, is)
planned_so (Ok (Err e)) s input fault faultless is = fault
planned_so (Err e) s input fault faultless is = tt

-- the input has no fault
pub told_plan : (fault : Option LineFault) (s : State) (input : List ℕ) (a b : Seen) (status : Status) → fault ≡ None → TellsPlan s input a b status → TellsInput fault s input a b status
told_plan fault s input a b status none told = subst (λ (f : Option LineFault). TellsInput f s input a b status) (sym none) told

-- it has one
pub told_fault : (found : Option LineFault) (fault : LineFault) (s : State) (input : List ℕ) (a b : Seen) (status : Status) → found ≡ Some fault → Refuses (line_note fault) a b status
    → TellsInput found s input a b status
told_fault found fault s input a b status some told = subst (λ (f : Option LineFault). TellsInput f s input a b status) (sym some) told

-- ---- the input was not read to its end

pub cut_short : (cut : Cut) (status : Status) (a b : Seen) → status ≡ cut_status cut → b.said ≡ a.said → NotesLines (notes_of (cut_status cut)) a b → IsCutShort a b status
cut_short cut status a b is same noted = record {
  says_nothing = same;
  why = by cut is;
  notes = subst (λ (s : Status). NotesLines (notes_of s) a b) (sym is) noted;
}
  where
    by : (one : Cut) → status ≡ cut_status one → (status ≡ ReadFault) ⊎ (status ≡ NoMemory)
    by cuts.NoMemory e = inr e
    by cuts.Fault e = inl e

pub cut_rose : (cut : Cut) (before now : ℕ) (status : Status) → status ≡ cut_status cut → FaultAt cut before now → status ≡ ReadFault → Rose before now
cut_rose cuts.NoMemory before now status is faults e = absurd (let no : NoMemory ≡ ReadFault = sym is ∙ e in cc)
cut_rose cuts.Fault before now status is faults e = faults

pub cut_calm : (cut : Cut) (before now : ℕ) (status : Status) → status ≡ cut_status cut → FaultAt cut before now → (status ≡ ReadFault → ⊥) → now ≡ before
cut_calm cuts.NoMemory before now status is faults none = faults
cut_calm cuts.Fault before now status is faults none = absurd (none is)

pub cut_ends : {D : Type 0} (cut : Cut) (seen : D → Seen) (stopped : D → Stopped) (old new : D) (status : Status) → status ≡ cut_status cut → OnlyNotes seen stopped old new
    → FindsNoMore stopped old new → EndsSo seen stopped old new status
cut_ends cuts.NoMemory seen stopped old new status is notes more =
    noted_ends seen stopped old new status (λ (e : status ≡ WriteFault). absurd cc) (λ (e : status ≡ DiskFault). absurd cc) notes more
cut_ends cuts.Fault seen stopped old new status is notes more =
    noted_ends seen stopped old new status (λ (e : status ≡ WriteFault). absurd cc) (λ (e : status ≡ DiskFault). absurd cc) notes more

-- ---- it was no read fault

pub closed_read : (fault : KeepFault) (status : Status) (a b : Seen) → TellsClosed fault status a b → status ≡ ReadFault → ⊥
closed_read keep.Disk status a b told e = let no : DiskFault ≡ ReadFault = sym told.0 ∙ e in absurd cc
closed_read (keep.Damaged part at) status a b told e = let no : Damaged ≡ ReadFault = sym told.0 ∙ e in absurd cc
closed_read keep.Full status a b told e = absurd told
closed_read keep.MarkFull status a b told e = absurd told
closed_read keep.Spent status a b told e = absurd told
closed_read keep.NoMemory status a b told e = let no : NoMemory ≡ ReadFault = sym told.0 ∙ e in absurd cc

pub refused_read : (note : List ℕ) (status : Status) (a b : Seen) → Refuses note a b status → status ≡ ReadFault → ⊥
refused_read note status a b refuses e = by refuses.why
  where
    by : ((status ≡ Unknown) × NotesLines note a b) ⊎ ((status ≡ NoMemory) × NotesLines (notes_of NoMemory) a b) → ⊥
    by (inl w) = let no : Unknown ≡ ReadFault = sym w.0 ∙ e in absurd cc
    by (inr w) = let no : NoMemory ≡ ReadFault = sym w.0 ∙ e in absurd cc

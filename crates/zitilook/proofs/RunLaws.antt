-- A run by what it was asked for.
use Rattle.std.specs.declared.option.Option.{Option}
use Rattle.std.proofs.Common.{◌≡◌, ◌⊎◌, inl, inr, ℕ, Bool, true, false, List, Result, Ok, Err, None, Some, refl, sym, ap, ◌∙◌, subst}
use Rattle.ziti_outside.specs.Untouched.{OnlyNotes}
use Rattle.ziti_outside.specs.Views.{Seen, Stopped}
use Rattle.ctrl_model.specs.State.{State}
use Rattle.run_notes.specs.NotedLines.{FindsNoMore, NotesLines}
use Rattle.zitilook.specs.declared.words.Asked.{Asked}
use Rattle.zitilook.specs.declared.words.Asked.TheVariants as asked
use Rattle.zitilook.specs.declared.words.Page.{Page}
use Rattle.zitilook.specs.declared.status.Status.{Status}
use Rattle.zitilook.specs.declared.status.Status.TheVariants.{Usage, Unknown, WriteFault, DiskFault, NoMemory}
use Rattle.zitilook.specs.Headline.{Runs, refusal_of, told_of}
use Rattle.zitilook.specs.Findings.{Examines, SaysWhere}
use Rattle.zitilook.specs.Looks.{IsClosed, FindsNone, Looks, Refuses, Says, SaysText, Tells}
use Rattle.zitilook.specs.Notes.{notes_of}
use Rattle.zitilook.specs.Pages.{page_text}
use Rattle.zitilook.specs.Steps.{EndsSo}
use Rattle.zitilook.proofs.FolderLaws.{noted_ends}
use Rattle.zitilook.proofs.WordLaws.{same_some, none_some}

refused_used : (note : List ℕ) (a b : Seen) (status : Status) → Refuses note a b status → status ≡ Usage → ⊥
refused_used note a b status told is = by told.why
  where
    by : ((status ≡ Unknown) × NotesLines note a b) ⊎ ((status ≡ NoMemory) × NotesLines (notes_of NoMemory) a b) → ⊥
    by (inl w) = let e : status ≡ Unknown = w.0 in absurd cc
    by (inr w) = let e : status ≡ NoMemory = w.0 in absurd cc

-- what tells ends otherwise than with Usage
told_used : (told : Result (List ℕ) (List ℕ)) (a b : Seen) (status : Status) → Tells told a b status → status ≡ Usage → ⊥
told_used (Ok text) a b status says is = subst (λ (s : Status). Says s text a.said b.said) is says.says
told_used (Err note) a b status refuses is = refused_used note a b status refuses is

-- and so does what looks
look_used : (told : State → Result (List ℕ) (List ℕ)) (tells : Bool) (a b : Seen) (status : Status) → FindsNone tells a b status ⊎ Looks told tells a b status → status ≡ Usage → ⊥
look_used told tells a b status (inl none) is = subst (λ (s : Status). IsClosed tells a b s) is none.why
look_used told tells a b status (inr looks) is = told_used (told looks.state) a b status looks.says is

-- the state of the folder is asked about
pub look_runs : {D : Type 0} (tells : Bool) (seen : D → Seen) (stopped : D → Stopped) (words : List (List ℕ)) (asks : Asked) (text : State → Result (List ℕ) (List ℕ)) (old new : D) (status : Status)
    → told_of words asks ≡ Some text → refusal_of words asks ≡ None
    → FindsNone tells (seen old) (seen new) status ⊎ Looks text tells (seen old) (seen new) status → EndsSo seen stopped old new status
    → Runs tells seen stopped words (Some asks) old new status
look_runs tells seen stopped words asks text old new status told none looks ends = record {
  usage = ((λ e. absurd (look_used text tells (seen old) (seen new) status looks e)), (λ (e : Some asks ≡ None). absurd cc));
  usage_note = λ (e : Some asks ≡ None). absurd cc;
  looks = λ other e t is. subst (λ (x : State → Result (List ℕ) (List ℕ)). FindsNone tells (seen old) (seen new) status ⊎ Looks x tells (seen old) (seen new) status)
      (same_some text t (sym told ∙ ap (told_of words) (same_some asks other e) ∙ is)) looks;
  refuses = λ other e note is. absurd (none_some (refusal_of words asks) note none (ap (refusal_of words) (same_some asks other e) ∙ is));
  examines = λ e. absurd (none_some (told_of words asks) text (ap (told_of words) (same_some asks asked.Doctor e)) told);
  pages = λ page e. absurd (none_some (told_of words asks) text (ap (told_of words) (same_some asks (asked.Tell page) e)) told);
  pages_want_no_memory = λ page e. absurd (none_some (told_of words asks) text (ap (told_of words) (same_some asks (asked.Tell page) e)) told);
  causes = ends.causes;
  folder = ends.folder;
}

-- a word names nothing
pub refused_runs : {D : Type 0} (tells : Bool) (seen : D → Seen) (stopped : D → Stopped) (words : List (List ℕ)) (asks : Asked) (note : List ℕ) (old new : D) (status : Status)
    → refusal_of words asks ≡ Some note → told_of words asks ≡ None → Refuses note (seen old) (seen new) status → EndsSo seen stopped old new status
    → Runs tells seen stopped words (Some asks) old new status
refused_runs tells seen stopped words asks note old new status is none told ends = record {
  usage = ((λ e. absurd (refused_used note (seen old) (seen new) status told e)), (λ (e : Some asks ≡ None). absurd cc));
  usage_note = λ (e : Some asks ≡ None). absurd cc;
  looks = λ other e t says. absurd (none_some (told_of words asks) t none (ap (told_of words) (same_some asks other e) ∙ says));
  refuses = λ other e n says. subst (λ (x : List ℕ). Refuses x (seen old) (seen new) status)
      (same_some note n (sym is ∙ ap (refusal_of words) (same_some asks other e) ∙ says)) told;
  examines = λ e. absurd (none_some (refusal_of words asks) note (ap (refusal_of words) (same_some asks asked.Doctor e)) is);
  pages = λ page e. absurd (none_some (refusal_of words asks) note (ap (refusal_of words) (same_some asks (asked.Tell page) e)) is);
  pages_want_no_memory = λ page e. absurd (none_some (refusal_of words asks) note (ap (refusal_of words) (same_some asks (asked.Tell page) e)) is);
  causes = ends.causes;
  folder = ends.folder;
}

-- what looks for what is wrong ends otherwise than with Usage
where_used : (well : Bool) (text : List ℕ) (status : Status) (a b : Option (List ℕ)) → SaysWhere well status text a b → status ≡ Usage → ⊥
where_used true text status a b says is = subst (λ (s : Status). SaysWhere true s text a b) is says
where_used false text status a b says is = subst (λ (s : Status). SaysWhere false s text a b) is says

doctor_used : (tells : Bool) (a b : Seen) (status : Status) → Examines tells a b status → status ≡ Usage → ⊥
doctor_used tells a b status (inl none) is = by none.why
  where
    by : (status ≡ DiskFault) ⊎ (status ≡ NoMemory) → ⊥
    by (inl e) = absurd cc
    by (inr e) = absurd cc
doctor_used tells a b status (inr found) is = where_used _ _ status a.said b.said found.says.says is

-- what is wrong is asked for
pub doctor_runs : {D : Type 0} (tells : Bool) (seen : D → Seen) (stopped : D → Stopped) (words : List (List ℕ)) (old new : D) (status : Status)
    → Examines tells (seen old) (seen new) status → EndsSo seen stopped old new status → Runs tells seen stopped words (Some asked.Doctor) old new status
doctor_runs tells seen stopped words old new status found ends = record {
  usage = ((λ e. absurd (doctor_used tells (seen old) (seen new) status found e)), (λ (e : Some asked.Doctor ≡ None). absurd cc));
  usage_note = λ (e : Some asked.Doctor ≡ None). absurd cc;
  looks = λ other e t is. absurd (none_some (told_of words asked.Doctor) t refl (ap (told_of words) (same_some asked.Doctor other e) ∙ is));
  refuses = λ other e n is. absurd (none_some (refusal_of words asked.Doctor) n refl (ap (refusal_of words) (same_some asked.Doctor other e) ∙ is));
  examines = λ _. found;
  pages = λ page (e : Some asked.Doctor ≡ Some (asked.Tell page)). absurd cc;
  pages_want_no_memory = λ page (e : Some asked.Doctor ≡ Some (asked.Tell page)). absurd cc;
  causes = ends.causes;
  folder = ends.folder;
}

same_page : (page other : Page) → Some (asked.Tell page) ≡ Some (asked.Tell other) → page ≡ other
same_page page other is = cc

pub page_runs : {D : Type 0} (tells : Bool) (seen : D → Seen) (stopped : D → Stopped) (words : List (List ℕ)) (page : Page) (old new : D) (status : Status)
    → SaysText (page_text page) (seen old) (seen new) status → (status ≡ NoMemory → ⊥) → EndsSo seen stopped old new status
    → Runs tells seen stopped words (Some (asked.Tell page)) old new status
page_runs tells seen stopped words page old new status says made ends = record {
  usage = ((λ e. absurd (subst (λ (s : Status). Says s (page_text page) (seen old).said (seen new).said) e says.says)), (λ (e : Some (asked.Tell page) ≡ None). absurd cc));
  usage_note = λ (e : Some (asked.Tell page) ≡ None). absurd cc;
  looks = λ other e t is. absurd (none_some (told_of words (asked.Tell page)) t refl (ap (told_of words) (same_some (asked.Tell page) other e) ∙ is));
  refuses = λ other e n is. absurd (none_some (refusal_of words (asked.Tell page)) n refl (ap (refusal_of words) (same_some (asked.Tell page) other e) ∙ is));
  examines = λ (e : Some (asked.Tell page) ≡ Some asked.Doctor). absurd cc;
  pages = λ other e. subst (λ (p : Page). SaysText (page_text p) (seen old) (seen new) status) (same_page page other e) says;
  pages_want_no_memory = λ other e. made;
  causes = ends.causes;
  folder = ends.folder;
}

pub usage_runs : {D : Type 0} (tells : Bool) (seen : D → Seen) (stopped : D → Stopped) (words : List (List ℕ)) (old new : D) (status : Status)
    → status ≡ Usage → NotesLines (notes_of Usage) (seen old) (seen new) → OnlyNotes seen stopped old new → FindsNoMore stopped old new
    → Runs tells seen stopped words None old new status
usage_runs tells seen stopped words old new status is noted notes more =
    let ends = noted_ends seen stopped old new status (λ (e : status ≡ WriteFault). absurd cc) (λ (e : status ≡ DiskFault). absurd cc) notes more in
    record {
      usage = ((λ _. refl), (λ _. is));
      usage_note = λ _. record { says_nothing = notes.replies; notes = noted };
      looks = λ other (e : None ≡ Some other). absurd cc;
      refuses = λ other (e : None ≡ Some other). absurd cc;
      examines = λ (e : None ≡ Some asked.Doctor). absurd cc;
      pages = λ page (e : None ≡ Some (asked.Tell page)). absurd cc;
      pages_want_no_memory = λ page (e : None ≡ Some (asked.Tell page)). absurd cc;
      causes = ends.causes;
      folder = ends.folder;
    }

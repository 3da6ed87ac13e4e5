-- A run that looks for what is wrong with a folder.
use Rattle.std.proofs.Common.{◌≡◌, ◌⊎◌, inl, inr, Bool, true, false, ℕ, List, IsTrue, Result, IfOk, sym, ◌∙◌, subst}
use Rattle.std.specs.declared.option.Option.{Option}
use Rattle.std.proofs.lemmas.Result.{IfOk-weaker}
use Rattle.ziti_outside.specs.declared.desk.Part.{Part}
use Rattle.ziti_outside.specs.Images.{Image}
use Rattle.ziti_outside.specs.Moments.{Elapses, Saying}
use Rattle.ziti_outside.specs.Told.{Took, TookFront}
use Rattle.ziti_outside.specs.Untouched.{OnlyNotes, OnlyReads, OnlySays}
use Rattle.ziti_outside.specs.Causes.{Rose}
use Rattle.ziti_outside.specs.Views.{Seen, Stopped}
use Rattle.ctrl_keep.specs.declared.faults.KeepFault.{KeepFault}
use Rattle.ctrl_keep.specs.declared.faults.KeepFault.TheVariants as keep
use Rattle.row_store.specs.OpenedStates.{IsStateless}
use Rattle.folder_findings.specs.declared.causes.Cause.{Cause}
use Rattle.folder_findings.specs.declared.causes.Verdict.{Verdict}
use Rattle.folder_findings.specs.declared.causes.Verdict.TheVariants.{Damaged as DamagedAt}
use Rattle.folder_findings.specs.Causes.{IsCauseAt}
use Rattle.folder_findings.specs.FoundFiles.{found_files}
use Rattle.run_notes.specs.NotedLines.{FindsNoMore, NotesLines}
use Rattle.run_notes.proofs.NoteLaws.{notes_from}
use Rattle.zitilook.specs.declared.status.Status.{Status}
use Rattle.zitilook.specs.declared.status.Status.TheVariants.{WriteFault, DiskFault, NoMemory}
use Rattle.zitilook.specs.Findings.{Examines, IsVerdict, SaysFindings, SaysWhere, TellsNothing, found_status}
use Rattle.zitilook.specs.Notes.{notes_of}
use Rattle.zitilook.specs.OpenedRows.{MayClose}
use Rattle.zitilook.specs.Steps.{EndsSo, TellsClosed}
use Rattle.zitilook.proofs.FolderLaws.{LeftAlone-then, calm, noted_alone, read_alone, said_alone, unread}

-- ---- what is said

said_where : (well : Bool) (text : List ℕ) (before now : Option (List ℕ)) → Took before now text → SaysWhere well (found_status well) text before now
said_where true text before now took = took
said_where false text before now took = took

cut_where : (well : Bool) (text : List ℕ) (before now : Option (List ℕ)) → TookFront before now text → SaysWhere well WriteFault text before now
cut_where true text before now took = took
cut_where false text before now took = took

unsaid_where : (well : Bool) (text : List ℕ) (before now : Option (List ℕ)) → now ≡ before → SaysWhere well NoMemory text before now
unsaid_where true text before now same = same
unsaid_where false text before now same = same

-- the notes of a status, since a desk that had noted the same
noted_since : (is status : Status) (a b c : Seen) → status ≡ is → b.noted ≡ a.noted → b.note_faults ≡ a.note_faults → NotesLines (notes_of is) b c
    → NotesLines (notes_of status) a c
noted_since is status a b c e q r noted = notes_from (notes_of status) a b c q r (subst (λ (s : Status). NotesLines (notes_of s) b c) (sym e) noted)

-- all findings were said
pub findings_whole : (well : Bool) (text : List ℕ) (is status : Status) (a b c : Seen) → is ≡ found_status well → status ≡ is → Took a.said b.said text → c.said ≡ b.said
    → b.noted ≡ a.noted → b.note_faults ≡ a.note_faults → NotesLines (notes_of is) b c → SaysFindings well text a c status
findings_whole well text is status a b c found e took same q r noted = record {
  says = subst (λ (s : Status). SaysWhere well s text a.said c.said) (sym (e ∙ found))
      (said_where well text a.said c.said (subst (λ (now : Option (List ℕ)). Took a.said now text) (sym same) took));
  notes = noted_since is status a b c e q r noted;
}

-- a front of them was
pub findings_cut : (well : Bool) (text : List ℕ) (status : Status) (a b c : Seen) → status ≡ WriteFault → TookFront a.said b.said text → c.said ≡ b.said
    → b.noted ≡ a.noted → b.note_faults ≡ a.note_faults → NotesLines (notes_of WriteFault) b c → SaysFindings well text a c status
findings_cut well text status a b c is took same q r noted = record {
  says = subst (λ (s : Status). SaysWhere well s text a.said c.said) (sym is)
      (cut_where well text a.said c.said (subst (λ (now : Option (List ℕ)). TookFront a.said now text) (sym same) took));
  notes = noted_since WriteFault status a b c is q r noted;
}

-- there was no memory for them
pub findings_unmade : (well : Bool) (text : List ℕ) (status : Status) (a b : Seen) → status ≡ NoMemory → b.said ≡ a.said → NotesLines (notes_of NoMemory) a b
    → SaysFindings well text a b status
findings_unmade well text status a b is same noted = record {
  says = subst (λ (s : Status). SaysWhere well s text a.said b.said) (sym is) (unsaid_where well text a.said b.said same);
  notes = subst (λ (s : Status). NotesLines (notes_of s) a b) (sym is) noted;
}

-- what was said since a desk that had said and noted the same
pub findings_from : (well : Bool) (text : List ℕ) (status : Status) (a b c : Seen) → b.said ≡ a.said → b.noted ≡ a.noted → b.note_faults ≡ a.note_faults
    → SaysFindings well text b c status → SaysFindings well text a c status
findings_from well text status a b c said q r says = record {
  says = subst (λ (x : Option (List ℕ)). SaysWhere well status text x c.said) said says.says;
  notes = notes_from (notes_of status) a b c q r says.notes;
}

-- ---- how it ended

-- all findings were said, which is no fault
no_fault : (well : Bool) (status : Status) → status ≡ found_status well → (status ≡ WriteFault → ⊥) × (status ≡ DiskFault → ⊥)
no_fault true status is = ((λ (e : status ≡ WriteFault). absurd cc), (λ (e : status ≡ DiskFault). absurd cc))
no_fault false status is = ((λ (e : status ≡ WriteFault). absurd cc), (λ (e : status ≡ DiskFault). absurd cc))

pub findings_end : {D : Type 0} (seen : D → Seen) (stopped : D → Stopped) (old mid new : D) (well : Bool) (is status : Status) (bytes : List ℕ) → is ≡ found_status well → status ≡ is
    → OnlySays seen stopped old mid → Elapses (stopped old) (stopped mid) (Saying (stopped old).images (seen old).said bytes) → (seen mid).say_faults ≡ (seen old).say_faults
    → OnlyNotes seen stopped mid new → FindsNoMore stopped mid new → EndsSo seen stopped old new status
findings_end seen stopped old mid new well is status bytes found e says stops same notes more =
    let none = no_fault well status (e ∙ found) in
    record {
      causes = calm (seen old) (seen new) status none.0 none.1 (notes.failed_says ∙ same) (notes.failed_calls ∙ says.failed_calls);
      folder = LeftAlone-then (said_alone (seen old).said bytes says stops) (noted_alone notes more);
    }

-- ---- the folder

-- where it is damaged, and what stands there
pub judged_damage : (tells : Bool) (image later : Image) (part : Part) (at : ℕ) (r : Result Verdict KeepFault) → later ≡ image → (IsTrue tells → IsStateless image part at)
    → IfOk r (λ v. (cause : Cause) × (v ≡ DamagedAt part at cause) × (IsTrue tells → IsCauseAt at (later part) cause)) → IfOk r (λ v. IsTrue tells → IsVerdict image v)
judged_damage tells image later part at r same none found =
    IfOk-weaker r _ _
    (λ v f told. subst (λ (x : Verdict). IsVerdict image x) (sym f.1) (none told, subst (λ (i : Image). IsCauseAt at (i part) f.0) same (f.2 told)))
    found

-- no call was refused for a state
pub may_close : (fault : KeepFault) → (fault ≡ keep.Disk) ⊎ (fault ≡ keep.NoMemory) → MayClose fault
may_close fault (inl e) = subst (λ (f : KeepFault). MayClose f) (sym e) tt
may_close fault (inr e) = subst (λ (f : KeepFault). MayClose f) (sym e) tt

-- why it was not read is noted
pub closed_tells : (fault : KeepFault) (status : Status) (b c : Seen) → (fault ≡ keep.Disk) ⊎ (fault ≡ keep.NoMemory) → TellsClosed fault status b c → c.said ≡ b.said
    → TellsNothing b c status
closed_tells fault status b c (inl e) told same =
    let t = subst (λ (f : KeepFault). TellsClosed f status b c) e told in
    record { says_nothing = same; why = inl t.0; notes = subst (λ (s : Status). NotesLines (notes_of s) b c) (sym t.0) t.1 }
closed_tells fault status b c (inr e) told same =
    let t = subst (λ (f : KeepFault). TellsClosed f status b c) e told in
    record { says_nothing = same; why = inr t.0; notes = subst (λ (s : Status). NotesLines (notes_of s) b c) (sym t.0) t.1 }

-- what was told since a desk that had said and noted the same and reads the same
pub examines_from : (tells : Bool) (status : Status) (a b c : Seen) → b.said ≡ a.said → b.noted ≡ a.noted → b.note_faults ≡ a.note_faults → b.reads ≡ a.reads
    → Examines tells b c status → Examines tells a c status
examines_from tells status a b c said q r reads (inl none) = inl (record {
  says_nothing = none.says_nothing ∙ said;
  why = none.why;
  notes = notes_from (notes_of status) a b c q r none.notes;
})
examines_from tells status a b c said q r reads (inr t) = inr (record {
  files = t.files;
  verdict = t.verdict;
  found = λ told. subst (λ (i : Image). t.files ≡ found_files i) reads (t.found told);
  judged = λ told. subst (λ (i : Image). IsVerdict i t.verdict) reads (t.judged told);
  says = findings_from _ _ status a b c said q r t.says;
})

-- a call on the disk failed
pub unread_tells : (status : Status) (b c : Seen) → status ≡ DiskFault → c.said ≡ b.said → NotesLines (notes_of DiskFault) b c → TellsNothing b c status
unread_tells status b c is same noted = record { says_nothing = same; why = inl is; notes = subst (λ (s : Status). NotesLines (notes_of s) b c) (sym is) noted }

pub unread_ends : {D : Type 0} (seen : D → Seen) (stopped : D → Stopped) (old mid new : D) (status : Status) → status ≡ DiskFault → OnlyReads seen stopped old mid
    → Rose (seen old).disk_faults (seen mid).disk_faults → OnlyNotes seen stopped mid new → FindsNoMore stopped mid new → EndsSo seen stopped old new status
unread_ends seen stopped old mid new status is reads rose notes more = record {
  causes = unread (seen old) (seen new) status is (notes.failed_says ∙ reads.others.failed_says) (subst (λ (n : ℕ). Rose (seen old).disk_faults n) (sym notes.failed_calls) rose);
  folder = LeftAlone-then (read_alone reads) (noted_alone notes more);
}

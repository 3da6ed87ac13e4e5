-- What was said of two folders, and how a run over both ended.
use Rattle.std.proofs.Common.{◌≡◌, ◌⊎◌, inl, inr, ℕ, Bool, List, [], Err, refl, sym, ◌∙◌, subst}
use Rattle.std.specs.declared.option.Option.{Option}
use Rattle.ziti_outside.specs.Causes.{HasCause, Rose}
use Rattle.ziti_outside.specs.Told.{Took, TookFront}
use Rattle.ziti_outside.specs.Untouched.{OnlyNotes, OnlyReads}
use Rattle.ziti_outside.specs.Views.{Seen, Stopped}
use Rattle.ziti_outside.proofs.MomentLaws.{Elapses-none, OnlyDisk-none}
use Rattle.ctrl_model.specs.State.{State}
use Rattle.ctrl_keep.specs.declared.faults.KeepFault.{KeepFault}
use Rattle.ctrl_keep.specs.declared.faults.KeepFault.TheVariants as keep
use Rattle.ctrl_keep.specs.Faults.{PeekFails, disk_failure}
use Rattle.run_notes.specs.NotedLines.{FindsNoMore, NotesLines}
use Rattle.run_notes.proofs.NoteLaws.{notes_from}
use Rattle.zitilook.specs.declared.status.Status.{Status}
use Rattle.zitilook.specs.declared.status.Status.TheVariants.{Done, Differs, WriteFault, DiskFault, Damaged, NoMemory}
use Rattle.zitilook.specs.Comparisons.{ComparesTo, EndsBeside, FindsNoOther, HasEitherCause, IsOtherClosed, SaysChanges, SaysLines}
use Rattle.zitilook.specs.Looks.{IsLeftAlone}
use Rattle.zitilook.specs.Notes.{notes_of, other_damaged_note, other_fault_note}
use Rattle.zitilook.specs.Steps.{EndsSo, TellsOther}
use Rattle.zitilook.proofs.FolderLaws.{LeftAlone-then, noted_alone, read_alone}
use Rattle.zitilook.proofs.SaidLaws.{noted_since}

-- ---- what was said of changes

pub lines_none : (lines : List ℕ) (status : Status) (a b : Seen) → status ≡ Done → lines ≡ [] → b.said ≡ a.said → NotesLines (notes_of Done) a b → SaysChanges lines a b status
lines_none lines status a b is none same noted = record {
  says = subst (λ (s : Status). SaysLines s lines a.said b.said) (sym is) (none, same);
  notes = subst (λ (s : Status). NotesLines (notes_of s) a b) (sym is) noted;
}

pub lines_whole : (lines : List ℕ) (status : Status) (a b c : Seen) → status ≡ Differs → (lines ≡ [] → ⊥) → Took a.said b.said lines → c.said ≡ b.said → b.noted ≡ a.noted
    → b.note_faults ≡ a.note_faults → NotesLines (notes_of Differs) b c → SaysChanges lines a c status
lines_whole lines status a b c is some took same q r noted = record {
  says = subst (λ (s : Status). SaysLines s lines a.said c.said) (sym is) (some, subst (λ (now : Option (List ℕ)). Took a.said now lines) (sym same) took);
  notes = noted_since Differs status a b c is q r noted;
}

pub lines_cut : (lines : List ℕ) (status : Status) (a b c : Seen) → status ≡ WriteFault → (lines ≡ [] → ⊥) → TookFront a.said b.said lines → c.said ≡ b.said → b.noted ≡ a.noted
    → b.note_faults ≡ a.note_faults → NotesLines (notes_of WriteFault) b c → SaysChanges lines a c status
lines_cut lines status a b c is some took same q r noted = record {
  says = subst (λ (s : Status). SaysLines s lines a.said c.said) (sym is) (some, subst (λ (now : Option (List ℕ)). TookFront a.said now lines) (sym same) took);
  notes = noted_since WriteFault status a b c is q r noted;
}

pub lines_unmade : (lines : List ℕ) (status : Status) (a b : Seen) → status ≡ NoMemory → b.said ≡ a.said → NotesLines (notes_of NoMemory) a b → SaysChanges lines a b status
lines_unmade lines status a b is same noted = record {
  says = subst (λ (s : Status). SaysLines s lines a.said b.said) (sym is) same;
  notes = subst (λ (s : Status). NotesLines (notes_of s) a b) (sym is) noted;
}

-- what was said since a desk that had said and noted the same
lines_from : (lines : List ℕ) (status : Status) (a b c : Seen) → b.said ≡ a.said → b.noted ≡ a.noted → b.note_faults ≡ a.note_faults → SaysChanges lines b c status → SaysChanges lines a c status
lines_from lines status a b c said q r says = record {
  says = subst (λ (x : Option (List ℕ)). SaysLines status lines x c.said) said says.says;
  notes = notes_from (notes_of status) a b c q r says.notes;
}

-- ---- the other folder was not opened

pub other_closed : (tells : Bool) (fault : KeepFault) (status : Status) (other a b : Seen) → PeekFails tells other.reads fault → TellsOther fault status a b → b.said ≡ a.said
    → FindsNoOther tells other a b status
other_closed tells keep.Disk status other a b why told said = record {
  says_nothing = said;
  why = subst (λ (s : Status). IsOtherClosed tells other a b s) (sym told.0) told.1;
}
other_closed tells (keep.Damaged part at) status other a b why told said = record {
  says_nothing = said;
  why = subst (λ (s : Status). IsOtherClosed tells other a b s) (sym told.0) (part, at, why, told.1);
}
other_closed tells keep.Full status other a b why told said = absurd why
other_closed tells keep.MarkFull status other a b why told said = absurd why
other_closed tells keep.Spent status other a b why told said = absurd why
other_closed tells keep.NoMemory status other a b why told said = record {
  says_nothing = said;
  why = subst (λ (s : Status). IsOtherClosed tells other a b s) (sym told.0) told.1;
}

pub other_unread : (tells : Bool) (status : Status) (other a b : Seen) → status ≡ NoMemory → b.said ≡ a.said → NotesLines (notes_of NoMemory) a b → FindsNoOther tells other a b status
other_unread tells status other a b is said noted = record {
  says_nothing = said;
  why = subst (λ (s : Status). IsOtherClosed tells other a b s) (sym is) noted;
}

closed_from : (tells : Bool) (other a b c : Seen) (status : Status) → b.noted ≡ a.noted → b.note_faults ≡ a.note_faults → IsOtherClosed tells other b c status → IsOtherClosed tells other a c status
closed_from tells other a b c DiskFault q r why = notes_from other_fault_note a b c q r why
closed_from tells other a b c Damaged q r why = (why.0, why.1, why.2, notes_from (other_damaged_note why.0 why.1) a b c q r why.3)
closed_from tells other a b c NoMemory q r why = notes_from (notes_of NoMemory) a b c q r why
closed_from tells other a b c status q r why = absurd why

-- what was told since a desk that had said and noted the same
pub compared_from : (state : State) (tells : Bool) (status : Status) (other a b c : Seen) → b.said ≡ a.said → b.noted ≡ a.noted → b.note_faults ≡ a.note_faults
    → FindsNoOther tells other b c status ⊎ ComparesTo state tells other b c status → FindsNoOther tells other a c status ⊎ ComparesTo state tells other a c status
compared_from state tells status other a b c said q r (inl none) = inl (record {
  says_nothing = none.says_nothing ∙ said;
  why = closed_from tells other a b c status q r none.why;
})
compared_from state tells status other a b c said q r (inr compares) = inr (record {
  other_state = compares.other_state;
  valid = compares.valid;
  opens = compares.opens;
  says = lines_from _ status a b c said q r compares.says;
})

-- ---- how it ended

-- the other folder was read, and what was said of it ended so
pub said_beside : {D E : Type 0} (seen : D → Seen) (stopped : D → Stopped) (seen_other : E → Seen) (stopped_other : E → Stopped) (other other_now : E) (old new : D) (status : Status)
    → OnlyReads seen_other stopped_other other other_now → (seen_other other_now).disk_faults ≡ (seen_other other).disk_faults → (status ≡ DiskFault → ⊥)
    → EndsSo seen stopped old new status → EndsBeside seen stopped seen_other stopped_other other other_now old new status
said_beside seen stopped seen_other stopped_other other other_now old new status reads calm read ends = record {
  causes = record {
    write_fault = ends.causes.write_fault;
    failed_say = ends.causes.failed_say;
    disk_fault = λ e. absurd (read e);
    failed_disk = λ none. (ends.causes.failed_disk none, calm);
  };
  folder = ends.folder;
  other_folder = read_alone reads;
  other_silent = reads.others;
}

closed_causes : (T : Type 0) (fault : KeepFault) (status : Status) (other other_now a b : Seen) → HasCause other.disk_faults other_now.disk_faults (disk_failure {T = T} (Err fault))
    → TellsOther fault status a b → b.say_faults ≡ a.say_faults → b.disk_faults ≡ a.disk_faults → HasEitherCause other other_now a b status
closed_causes T keep.Disk status other other_now a b cause told says calls =
    let is : status ≡ DiskFault = told.0 in
    record {
      write_fault = λ (e : status ≡ WriteFault). absurd cc;
      failed_say = λ _. says;
      disk_fault = λ _. inr cause.failed;
      failed_disk = λ none. absurd (none is);
    }
closed_causes T (keep.Damaged part at) status other other_now a b cause told says calls =
    let is : status ≡ Damaged = told.0 in
    record {
      write_fault = λ (e : status ≡ WriteFault). absurd cc;
      failed_say = λ _. says;
      disk_fault = λ (e : status ≡ DiskFault). absurd cc;
      failed_disk = λ _. (calls, cause.calm);
    }
closed_causes T keep.Full status other other_now a b cause told says calls = absurd told
closed_causes T keep.MarkFull status other other_now a b cause told says calls = absurd told
closed_causes T keep.Spent status other other_now a b cause told says calls = absurd told
closed_causes T keep.NoMemory status other other_now a b cause told says calls =
    let is : status ≡ NoMemory = told.0 in
    record {
      write_fault = λ (e : status ≡ WriteFault). absurd cc;
      failed_say = λ _. says;
      disk_fault = λ (e : status ≡ DiskFault). absurd cc;
      failed_disk = λ _. (calls, cause.calm);
    }

-- the other folder was not opened, and that was noted
pub closed_beside : {D E : Type 0} (T : Type 0) (seen : D → Seen) (stopped : D → Stopped) (seen_other : E → Seen) (stopped_other : E → Stopped) (fault : KeepFault)
    (other other_now : E) (old new : D) (status : Status)
    → HasCause (seen_other other).disk_faults (seen_other other_now).disk_faults (disk_failure {T = T} (Err fault)) → OnlyReads seen_other stopped_other other other_now
    → TellsOther fault status (seen old) (seen new) → OnlyNotes seen stopped old new → FindsNoMore stopped old new
    → EndsBeside seen stopped seen_other stopped_other other other_now old new status
closed_beside T seen stopped seen_other stopped_other fault other other_now old new status cause reads told notes more = record {
  causes = closed_causes T fault status (seen_other other) (seen_other other_now) (seen old) (seen new) cause told notes.failed_says notes.failed_calls;
  folder = noted_alone notes more;
  other_folder = read_alone reads;
  other_silent = reads.others;
}

-- the other desk was not asked
still_alone : {E : Type 0} (seen : E → Seen) (stopped : E → Stopped) (desk : E) → IsLeftAlone seen stopped desk desk
still_alone seen stopped desk = record {
  parts = refl;
  found = λ image left. left;
  stops = Elapses-none (stopped desk) (λ image taken. (stopped desk).images image);
}

pub alone_beside : {D E : Type 0} (seen : D → Seen) (stopped : D → Stopped) (seen_other : E → Seen) (stopped_other : E → Stopped) (other : E) (old new : D) (status : Status)
    → EndsSo seen stopped old new status → EndsBeside seen stopped seen_other stopped_other other other old new status
alone_beside seen stopped seen_other stopped_other other old new status ends = record {
  causes = record {
    write_fault = ends.causes.write_fault;
    failed_say = ends.causes.failed_say;
    disk_fault = λ e. inl (ends.causes.disk_fault e);
    failed_disk = λ none. (ends.causes.failed_disk none, refl);
  };
  folder = ends.folder;
  other_folder = still_alone seen_other stopped_other other;
  other_silent = OnlyDisk-none other;
}

-- the folder was read, and then a run over both ended so
pub read_beside : {D E : Type 0} (seen : D → Seen) (stopped : D → Stopped) (seen_other : E → Seen) (stopped_other : E → Stopped) (other other_now : E) (old mid new : D) (status : Status)
    → OnlyReads seen stopped old mid → (seen mid).disk_faults ≡ (seen old).disk_faults → EndsBeside seen stopped seen_other stopped_other other other_now mid new status
    → EndsBeside seen stopped seen_other stopped_other other other_now old new status
read_beside seen stopped seen_other stopped_other other other_now old mid new status reads calls ends = record {
  causes = record {
    write_fault = λ e. subst (λ (n : ℕ). Rose n (seen new).say_faults) reads.others.failed_says (ends.causes.write_fault e);
    failed_say = λ none. ends.causes.failed_say none ∙ reads.others.failed_says;
    disk_fault = λ e. by (ends.causes.disk_fault e);
    failed_disk = λ none. ((ends.causes.failed_disk none).0 ∙ calls, (ends.causes.failed_disk none).1);
  };
  folder = LeftAlone-then (read_alone reads) ends.folder;
  other_folder = ends.other_folder;
  other_silent = ends.other_silent;
}
  where
    by : Rose (seen mid).disk_faults (seen new).disk_faults ⊎ Rose (seen_other other).disk_faults (seen_other other_now).disk_faults
        → Rose (seen old).disk_faults (seen new).disk_faults ⊎ Rose (seen_other other).disk_faults (seen_other other_now).disk_faults
    by (inl rose) = inl (subst (λ (n : ℕ). Rose n (seen new).disk_faults) calls rose)
    by (inr rose) = inr rose

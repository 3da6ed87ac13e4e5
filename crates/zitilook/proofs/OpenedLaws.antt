-- What a folder opens to whose rows were taken, and what is told where they were not.
use Rattle.std.proofs.Common.{◌≡◌, ℕ, Bool, List, inl, Err, sym, ◌∙◌, subst}
use Rattle.ziti_outside.specs.Causes.{HasCause, Rose}
use Rattle.ziti_outside.specs.Images.{Image}
use Rattle.ziti_outside.specs.Untouched.{OnlyNotes, OnlyReads}
use Rattle.ziti_outside.specs.Views.{Seen, Stopped}
use Rattle.ctrl_model.specs.State.{State}
use Rattle.row_codec.specs.declared.changes.Op.{Op}
use Rattle.row_codec.specs.declared.rows.Row.{Row}
use Rattle.state_building.specs.BuiltStates.{state_in}
use Rattle.state_building.specs.declared.flaws.Flaw.{Flaw}
use Rattle.row_loading.specs.LoadedRows.{Loads}
use Rattle.row_loading.specs.RefusedRows.{AreUnread}
use Rattle.row_loading.proofs.RefusedStates.{refused-of_none}
use Rattle.row_loading.proofs.LoadedStates.{same-state}
use Rattle.ctrl_model.specs.declared.formats.Format.{Format}
use Rattle.ctrl_keep.specs.declared.faults.KeepFault.{KeepFault}
use Rattle.ctrl_keep.specs.declared.faults.KeepFault.TheVariants.{Disk, Full, MarkFull, Damaged, Spent, NoMemory}
use Rattle.ctrl_keep.specs.Faults.{disk_failure, PeekFails}
use Rattle.run_notes.specs.NotedLines.{FindsNoMore}
use Rattle.run_notes.proofs.NoteLaws.{notes_from}
use Rattle.zitilook.specs.declared.status.Status.{Status}
use Rattle.zitilook.specs.declared.status.Status.TheVariants as ending
use Rattle.zitilook.specs.Looks.{IsClosed, FindsNone, HasCauses}
use Rattle.zitilook.specs.Notes.{damaged_note, notes_of}
use Rattle.zitilook.specs.OpenedRows.{AreThoseOf, MayClose}
use Rattle.zitilook.specs.Steps.{EndsSo, TellsClosed}
use Rattle.zitilook.proofs.FolderLaws.{LeftAlone-then, read_alone, noted_alone, calm, unread}

-- ---- the rows of a batch

-- rows that were read of what puts all rows of a valid state build that state
pub taken_state : (format : Format) (puts ops : List Op) (rows : List Row) → ops ≡ puts → Loads format ops rows → (s : State) → AreThoseOf format s puts → state_in rows ≡ s
taken_state format puts ops rows same loads s those = same-state format ops rows s those.valid those.has (same ∙ those.puts) loads

-- every one of them is read
pub all_read : (format : Format) (puts ops : List Op) (place : ℕ) (flaw : Flaw) → ops ≡ puts → AreUnread format ops place flaw → (s : State) → AreThoseOf format s puts → ⊥
all_read format puts ops place flaw same unread s those = refused-of_none format ops place flaw (inl unread) s those.valid those.has (same ∙ those.puts)

-- ---- a folder that was not opened

pub may_close : (tells : Bool) (image : Image) (fault : KeepFault) → PeekFails tells image fault → MayClose fault
may_close tells image Disk f = tt
may_close tells image (Damaged part at) f = tt
may_close tells image Full f = f
may_close tells image MarkFull f = f
may_close tells image Spent f = f
may_close tells image NoMemory f = tt

-- why it was not opened is noted
pub closed_finds : (tells : Bool) (fault : KeepFault) (status : Status) (a b c : Seen) → PeekFails tells a.reads fault → TellsClosed fault status b c
    → b.said ≡ a.said → c.said ≡ b.said → b.noted ≡ a.noted → b.note_faults ≡ a.note_faults → FindsNone tells a c status
closed_finds tells Disk status a b c why told said same q r = record {
  says_nothing = same ∙ said;
  why = subst (λ (s : Status). IsClosed tells a c s) (sym told.0) (notes_from (notes_of ending.DiskFault) a b c q r told.1);
}
closed_finds tells (Damaged part at) status a b c why told said same q r = record {
  says_nothing = same ∙ said;
  why = subst (λ (s : Status). IsClosed tells a c s) (sym told.0) (part, at, why, notes_from (damaged_note part at) a b c q r told.1);
}
closed_finds tells Full status a b c why told said same q r = absurd why
closed_finds tells MarkFull status a b c why told said same q r = absurd why
closed_finds tells Spent status a b c why told said same q r = absurd why
closed_finds tells NoMemory status a b c why told said same q r = record {
  says_nothing = same ∙ said;
  why = subst (λ (s : Status). IsClosed tells a c s) (sym told.0) (notes_from (notes_of ending.NoMemory) a b c q r told.1);
}

-- each fault has its cause
closed_causes : (T : Type 0) (fault : KeepFault) (status : Status) (a b c : Seen) → HasCause a.disk_faults b.disk_faults (disk_failure {T = T} (Err fault)) → TellsClosed fault status b c
    → c.say_faults ≡ a.say_faults → c.disk_faults ≡ b.disk_faults → HasCauses a c status
closed_causes T Disk status a b c cause told says calls = unread a c status told.0 says (subst (λ (n : ℕ). Rose a.disk_faults n) (sym calls) cause.failed)
closed_causes T (Damaged part at) status a b c cause told says calls =
    let is : status ≡ ending.Damaged = told.0 in
    calm a c status (λ (e : status ≡ ending.WriteFault). absurd cc) (λ (e : status ≡ ending.DiskFault). absurd cc) says (calls ∙ cause.calm)
closed_causes T Full status a b c cause told says calls = absurd told
closed_causes T MarkFull status a b c cause told says calls = absurd told
closed_causes T Spent status a b c cause told says calls = absurd told
closed_causes T NoMemory status a b c cause told says calls =
    let is : status ≡ ending.NoMemory = told.0 in
    calm a c status (λ (e : status ≡ ending.WriteFault). absurd cc) (λ (e : status ≡ ending.DiskFault). absurd cc) says (calls ∙ cause.calm)

pub closed_ends : {D : Type 0} (T : Type 0) (seen : D → Seen) (stopped : D → Stopped) (fault : KeepFault) (status : Status) (old mid new : D)
    → HasCause (seen old).disk_faults (seen mid).disk_faults (disk_failure {T = T} (Err fault)) → OnlyReads seen stopped old mid → TellsClosed fault status (seen mid) (seen new)
    → OnlyNotes seen stopped mid new → FindsNoMore stopped mid new → EndsSo seen stopped old new status
closed_ends T seen stopped fault status old mid new cause reads told notes more = record {
  causes = closed_causes T fault status (seen old) (seen mid) (seen new) cause told (notes.failed_says ∙ reads.others.failed_says) notes.failed_calls;
  folder = LeftAlone-then (read_alone reads) (noted_alone notes more);
}

-- A folder that was not opened: why it stays closed, and what telling that leaves.
use Rattle.std.specs.Prelude.{⊤, Bool, IsTrue}
use Rattle.std.proofs.Common.{◌≡◌, ◌⊎◌, inl, inr, ℕ, ◌<◌, [], length, None, Some, Err, refl, sym, ◌∙◌, subst}
use Rattle.std.specs.declared.option.Option.{Option}
use Rattle.ziti_outside.specs.Images.{Image, After}
use Rattle.ziti_outside.specs.Moments.{Leaves}
use Rattle.ziti_outside.specs.Told.{AreTaken}
use Rattle.ziti_outside.specs.Causes.{HasCause}
use Rattle.ziti_outside.specs.declared.desk.Part.{Part}
use Rattle.ziti_outside.specs.declared.desk.Part.TheVariants.{Mark}
use Rattle.ziti_outside.specs.Untouched.{OnlyDisk, OnlyNotes, OnlyReads}
use Rattle.ziti_outside.proofs.MomentLaws.{Elapses-then, Leaves-weaker}
use Rattle.ziti_outside.specs.Views.{Seen, Stopped}
use Rattle.slot_files.specs.FolderImage.{StandsAsBefore}
use Rattle.slot_files.proofs.StandLaws.{stands_same}
use Rattle.ctrl_keep.specs.declared.faults.KeepFault.{KeepFault}
use Rattle.ctrl_keep.specs.declared.faults.KeepFault.TheVariants as keep
use Rattle.ctrl_keep.specs.Faults.{disk_failure, OpenFails, PeekFails}
use Rattle.ctrl_keep.specs.KeptController.{Controlled}
use Rattle.ctrl_keep.specs.MigratedFolders.{MayMigrate, MigratesBy}
use Rattle.row_store.specs.OpenedStates.{IsStateless, OpensToState}
use Rattle.row_store.specs.declared.bounds.StoreBounds.{StoreBounds}
use Rattle.ctrl_model.specs.State.{State}
use Rattle.run_notes.specs.declared.ends.Full.{Full}
use Rattle.run_notes.specs.declared.ends.Full.TheVariants as full
use Rattle.run_notes.specs.declared.status.Status.{Status}
use Rattle.run_notes.specs.declared.status.Status.TheVariants.{ReadFault, WriteFault, DiskFault, Damaged, NoMemory, FolderFull}
use Rattle.run_notes.specs.NotedLines.{FindsNoMore, NotesLines}
use Rattle.run_notes.specs.Notes.{damaged_note, full_note, status_lines}
use Rattle.run_notes.proofs.NoteLaws.{notes_from}
use Rattle.ctrl_serve.specs.FolderRuns.{TellsClosed}
use Rattle.ctrl_serve.specs.Headline.{StaysClosed, IsLeftAlone, IsUnopened}
use Rattle.ctrl_serve.specs.MigratedRuns.{CutsMigration, IsToldFull, LeftByMigration, MigratesWithin}
use Rattle.ctrl_serve.specs.Runs.{IsDiskCaused}
use Rattle.serve_loop.proofs.IntakeLaws.{disk_calm, disk_fault}
use Rattle.ctrl_serve.proofs.OpenedMachines.{stateless_marked}
use Rattle.ctrl_core.specs.KeptFormat.{kept_format}

-- ---- why it stays closed

-- Why it was not opened: by a run that migrates one of the first format within bounds, or by one that reads it alone.
abbrev pub ClosesFor : Option StoreBounds → (tells : Bool) → Image → KeepFault → Type 0
ClosesFor None tells image fault = PeekFails tells image fault
ClosesFor (Some bounds) tells image fault = OpenFails tells bounds image fault

-- What a call that did not open a folder left of it.
pub record Closes {D : Type 0} (within : Option StoreBounds) (tells : Bool) (seen : D → Seen) (stopped : D → Stopped) (fault : KeepFault) (desk mid : D) : Type 0 where
  pub others : OnlyDisk seen desk mid
  pub fails : ClosesFor within tells (seen desk).reads fault
  pub kept : IsTrue tells → 0 < length ((seen desk).reads Mark) → OnlyReads seen stopped desk mid
      ⊎ ((s : State) × MayMigrate {T = Controlled} (Err fault) × MigratesWithin within (seen desk).reads s)
  pub quiet : Leaves seen stopped desk mid (λ image. ⊤)
  pub stops : IsTrue tells → Leaves seen stopped desk mid (λ image. After (StandsAsBefore kept_format) (stopped desk).images image
      ⊎ ((s : State) × (MayMigrate {T = Controlled} (Err fault) × MigratesWithin within (seen desk).reads s) × OpensToState image s))

-- What was told of it since a desk that had noted the same.
closed_from : (fault : KeepFault) (status : Status) (a b n : Seen) → b.noted ≡ a.noted → b.note_faults ≡ a.note_faults → TellsClosed fault status b n → TellsClosed fault status a n
closed_from keep.Disk status a b n q r told = (told.0, notes_from _ a b n q r told.1)
closed_from keep.Full status a b n q r told = (told.0, notes_from _ a b n q r told.1)
closed_from keep.MarkFull status a b n q r told = (told.0, notes_from _ a b n q r told.1)
closed_from (keep.Damaged part at) status a b n q r told = (told.0, notes_from _ a b n q r told.1)
closed_from keep.Spent status a b n q r told = absurd told
closed_from keep.NoMemory status a b n q r told = (told.0, notes_from _ a b n q r told.1)

-- A failed call on the disk, and want of memory.
closed_by_disk : (within : Option StoreBounds) (tells : Bool) (before now : Seen) (status : Status) → status ≡ DiskFault → NotesLines (status_lines [] DiskFault) before now → StaysClosed within tells before now status
closed_by_disk within tells before now status is noted = subst (λ (u : Status). StaysClosed within tells before now u) (sym is) noted

closed_by_memory : (within : Option StoreBounds) (tells : Bool) (before now : Seen) (status : Status) → status ≡ NoMemory → NotesLines (status_lines [] NoMemory) before now → StaysClosed within tells before now status
closed_by_memory within tells before now status is noted = subst (λ (u : Status). StaysClosed within tells before now u) (sym is) noted

-- A damaged folder, which reads as before.
closed_by_damage : (within : Option StoreBounds) (tells : Bool) (before now : Seen) (part : Part) (at : ℕ) (status : Status) → status ≡ Damaged
    → (IsTrue tells → IsStateless before.reads part at) → (IsTrue tells → now.reads ≡ before.reads) → NotesLines (damaged_note part at) before now → StaysClosed within tells before now status
closed_by_damage within tells before now part at status is none still noted = subst (λ (u : Status). StaysClosed within tells before now u) (sym is) (part, at, none, still, noted)

-- One without room to be migrated, which reads as before.
closed_by_room : (within : Option StoreBounds) (tells : Bool) (before now : Seen) (part : Full) (status : Status) → status ≡ FolderFull
    → IsToldFull within tells part before.reads → (IsTrue tells → now.reads ≡ before.reads) → NotesLines (full_note part) before now → StaysClosed within tells before now status
closed_by_room within tells before now part status is full still noted = subst (λ (u : Status). StaysClosed within tells before now u) (sym is) (part, full, still, noted)

-- Nothing was written of it unless the disk failed.
read_alone : (A : Type 0) (B : State → Type 0) → (A → ⊥) → (X : Type 0) → X ⊎ ((s : State) × A × B s) → X
read_alone A B none X (inl x) = x
read_alone A B none X (inr (s, a, b)) = absurd (none a)

-- Why it was not opened, by the fault that was told.
closed_by : (within : Option StoreBounds) (tells : Bool) (before now : Seen) (fault : KeepFault) (status : Status) → ClosesFor within tells before.reads fault
    → ((MayMigrate {T = Controlled} (Err fault) → ⊥) → IsTrue tells → 0 < length (before.reads Mark) → now.reads ≡ before.reads) → TellsClosed fault status before now → StaysClosed within tells before now status
closed_by within tells before now keep.Disk status fails kept told = closed_by_disk within tells before now status told.0 told.1
closed_by None tells before now keep.Full status fails kept told = absurd fails
closed_by (Some bounds) tells before now keep.Full status fails kept told =
    closed_by_room (Some bounds) tells before now full.Journal status told.0 fails (λ yes. kept (λ may. may) yes (fails yes).opens.some) told.1
closed_by None tells before now keep.MarkFull status fails kept told = absurd fails
closed_by (Some bounds) tells before now keep.MarkFull status fails kept told =
    closed_by_room (Some bounds) tells before now full.Mark status told.0 fails (λ yes. kept (λ may. may) yes (fails yes).opens.some) told.1
closed_by None tells before now (keep.Damaged part at) status fails kept told =
    closed_by_damage None tells before now part at status told.0 fails (λ yes. kept (λ may. may) yes (stateless_marked before.reads part at (fails yes))) told.1
closed_by (Some bounds) tells before now (keep.Damaged part at) status fails kept told =
    closed_by_damage (Some bounds) tells before now part at status told.0 fails (λ yes. kept (λ may. may) yes (stateless_marked before.reads part at (fails yes))) told.1
closed_by None tells before now keep.Spent status fails kept told = absurd fails
closed_by (Some bounds) tells before now keep.Spent status fails kept told = absurd fails
closed_by within tells before now keep.NoMemory status fails kept told = closed_by_memory within tells before now status told.0 told.1

-- No such fault is Spent.
pub never_spent : (within : Option StoreBounds) (tells : Bool) (image : Image) (fault : KeepFault) → ClosesFor within tells image fault → fault ≡ keep.Spent → ⊥
never_spent None tells image fault fails is = subst (PeekFails tells image) is fails
never_spent (Some bounds) tells image fault fails is = subst (OpenFails tells bounds image) is fails

-- ---- what telling it leaves

-- No take and no say failed where it was not opened.
pub closed_calm : (fault : KeepFault) (status : Status) (c d : Seen) → TellsClosed fault status c d → (status ≡ ReadFault → ⊥) × (status ≡ WriteFault → ⊥)
closed_calm keep.Disk status c d told = let is = told.0 in (λ e. cc, λ e. cc)
closed_calm keep.Full status c d told = let is = told.0 in (λ e. cc, λ e. cc)
closed_calm keep.MarkFull status c d told = let is = told.0 in (λ e. cc, λ e. cc)
closed_calm (keep.Damaged part at) status c d told = let is = told.0 in (λ e. cc, λ e. cc)
closed_calm keep.Spent status c d told = absurd told
closed_calm keep.NoMemory status c d told = let is = told.0 in (λ e. cc, λ e. cc)

-- The run ends with a disk fault exactly where a call on the disk failed.
pub closed_disk : (T : Type 0) (before mid now : ℕ) (fault : KeepFault) (status : Status) (c d : Seen) → HasCause before mid (disk_failure {T = T} (Err fault)) → now ≡ mid
    → TellsClosed fault status c d → IsDiskCaused before now status
closed_disk T before mid now keep.Disk status c d cause still told =
    subst (λ (u : Status). IsDiskCaused before now u) (sym told.0) (disk_fault before mid now keep.Disk (disk_failure {T = T} (Err keep.Disk)) refl cause still)
closed_disk T before mid now keep.Full status c d cause still told = disk_calm before now status (still ∙ cause.calm) (λ e. let is = told.0 in cc)
closed_disk T before mid now keep.MarkFull status c d cause still told = disk_calm before now status (still ∙ cause.calm) (λ e. let is = told.0 in cc)
closed_disk T before mid now (keep.Damaged part at) status c d cause still told = disk_calm before now status (still ∙ cause.calm) (λ e. let is = told.0 in cc)
closed_disk T before mid now keep.Spent status c d cause still told = absurd told
closed_disk T before mid now keep.NoMemory status c d cause still told = disk_calm before now status (still ∙ cause.calm) (λ e. let is = told.0 in cc)

-- Only a failed call on the disk cuts a migration short.
cut_at_disk : (fault : KeepFault) (status : Status) (c d : Seen) → TellsClosed fault status c d → MayMigrate {T = Controlled} (Err fault) → status ≡ DiskFault
cut_at_disk keep.Disk status c d told may = told.0
cut_at_disk keep.Full status c d told may = absurd may
cut_at_disk keep.MarkFull status c d told may = absurd may
cut_at_disk (keep.Damaged part at) status c d told may = absurd may
cut_at_disk keep.Spent status c d told may = absurd may
cut_at_disk keep.NoMemory status c d told may = absurd may

left_by : (within : Option StoreBounds) (fault : KeepFault) (status : Status) (c d : Seen) (before image : Image) (X : Type 0) → TellsClosed fault status c d
    → X ⊎ ((s : State) × (MayMigrate {T = Controlled} (Err fault) × MigratesWithin within before s) × OpensToState image s) → X ⊎ LeftByMigration within status before image
left_by within fault status c d before image X told (inl x) = inl x
left_by within fault status c d before image X told (inr (s, (may, migrates), opens)) = inr (s, (cut_at_disk fault status c d told may, migrates), opens)

noted_behind : {D : Type 0} {seen : D → Seen} {stopped : D → Stopped} {desk mid now : D} → OnlyReads seen stopped desk mid → OnlyNotes seen stopped mid now → FindsNoMore stopped mid now → IsLeftAlone seen stopped desk now
noted_behind {stopped = stopped} {desk = desk} reads notes more = record {
  parts = notes.parts ∙ reads.parts;
  found = λ image p. reads.stops.found image (notes.found image p);
  stops = Elapses-then (λ image taken. (stopped desk).images image) reads.stops.time more (λ i w p. p.found) (λ i w none. absurd none);
}

alone_by : {D : Type 0} {seen : D → Seen} {stopped : D → Stopped} {desk mid now : D} (within : Option StoreBounds) (fault : KeepFault) (status : Status) (c d : Seen) → TellsClosed fault status c d
    → OnlyNotes seen stopped mid now → FindsNoMore stopped mid now
    → OnlyReads seen stopped desk mid ⊎ ((s : State) × MayMigrate {T = Controlled} (Err fault) × MigratesWithin within (seen desk).reads s)
    → IsLeftAlone seen stopped desk now ⊎ ((s : State) × CutsMigration within status (seen desk).reads s)
alone_by within fault status c d told notes more (inl reads) = inl (noted_behind reads notes more)
alone_by within fault status c d told notes more (inr (s, may, migrates)) = inr (s, (cut_at_disk fault status c d told may, migrates))

-- A folder that was not opened, and that was told.
pub unopened : {D : Type 0} {seen : D → Seen} {stopped : D → Stopped}
    (within : Option StoreBounds) (tells : Bool) (fault : KeepFault) (desk mid now : D) (status : Status) → Closes within tells seen stopped fault desk mid → OnlyNotes seen stopped mid now
    → FindsNoMore stopped mid now → TellsClosed fault status (seen mid) (seen now)
    → IsUnopened within tells seen stopped desk now status
unopened {seen = seen} {stopped = stopped} within tells fault desk mid now status closes notes more told =
    let still : (MayMigrate {T = Controlled} (Err fault) → ⊥) → IsTrue tells → 0 < length ((seen desk).reads Mark) → (seen now).reads ≡ (seen desk).reads =
    λ none yes some. notes.parts ∙ (read_alone (MayMigrate {T = Controlled} (Err fault)) (MigratesWithin within (seen desk).reads) none (OnlyReads seen stopped desk mid) (closes.kept yes some)).parts in
    let why = closed_by within tells (seen desk) (seen now) fault status closes.fails still
    (closed_from fault status (seen desk) (seen mid) (seen now) closes.others.notes closes.others.failed_notes told) in
    let left : IsTrue tells → Leaves seen stopped desk mid (λ image. After (StandsAsBefore kept_format) (stopped desk).images image ⊎ LeftByMigration within status (seen desk).reads image) =
    λ yes. Leaves-weaker _ (closes.stops yes) (λ image p. left_by within fault status (seen mid) (seen now) (seen desk).reads image _ told p) in
    record {
      says_nothing = notes.replies ∙ closes.others.replies;
      alone = λ yes some. alone_by within fault status (seen mid) (seen now) told notes more (closes.kept yes some);
      why = why;
      stops = λ yes. Elapses-then _ (left yes).time more (λ i w p. p) (λ i w none. absurd none);
      stands = λ yes image p. (left yes).found image (notes.found image p);
      unsaid = Elapses-then (λ image taken. AreTaken (seen desk).said taken) closes.quiet.time more (λ i w p. p.replies) (λ i w none. absurd none);
    }

-- ---- by either call

without_leaves : {D : Type 0} {seen : D → Seen} {stopped : D → Stopped} (bounds : StoreBounds) (fault : KeepFault) (desk mid : D)
    → OnlyReads seen stopped desk mid ⊎ ((s : State) × MigratesBy {T = Controlled} (Err fault) bounds (seen desk).reads s
    × Leaves seen stopped desk mid (λ image. (stopped desk).images image ⊎ OpensToState image s))
    → OnlyReads seen stopped desk mid ⊎ ((s : State) × MayMigrate {T = Controlled} (Err fault) × MigratesWithin (Some bounds) (seen desk).reads s)
without_leaves bounds fault desk mid (inl reads) = inl reads
without_leaves bounds fault desk mid (inr (s, (may, migrates), leaves)) = inr (s, may, migrates)

-- It was to be opened within bounds.
pub opens_none : {D : Type 0} {seen : D → Seen} {stopped : D → Stopped} (bounds : StoreBounds) (tells : Bool) (fault : KeepFault) (desk mid : D) → OnlyDisk seen desk mid → OpenFails tells bounds (seen desk).reads fault
    → (IsTrue tells → 0 < length ((seen desk).reads Mark) → OnlyReads seen stopped desk mid ⊎ ((s : State) × MigratesBy {T = Controlled} (Err fault) bounds (seen desk).reads s
    × Leaves seen stopped desk mid (λ image. (stopped desk).images image ⊎ OpensToState image s)))
    → Leaves seen stopped desk mid (λ image. ⊤)
    → (IsTrue tells → Leaves seen stopped desk mid (λ image. After (StandsAsBefore kept_format) (stopped desk).images image
    ⊎ ((s : State) × MigratesBy {T = Controlled} (Err fault) bounds (seen desk).reads s × OpensToState image s)))
    → Closes (Some bounds) tells seen stopped fault desk mid
opens_none bounds tells fault desk mid others fails kept quiet stops = record {
  others = others;
  fails = fails;
  kept = λ yes some. without_leaves bounds fault desk mid (kept yes some);
  quiet = quiet;
  stops = stops;
}

-- It was read alone.
pub peeks_none : {D : Type 0} {seen : D → Seen} {stopped : D → Stopped} (tells : Bool) (fault : KeepFault) (desk mid : D) → OnlyReads seen stopped desk mid → PeekFails tells (seen desk).reads fault
    → Closes None tells seen stopped fault desk mid
peeks_none {stopped = stopped} tells fault desk mid reads fails = record {
  others = reads.others;
  fails = fails;
  kept = λ yes some. inl reads;
  quiet = Leaves-weaker (λ image. ⊤) reads.stops (λ i p. tt);
  stops = λ yes. Leaves-weaker _ reads.stops (λ i p. inl (stands_same kept_format i p));
}

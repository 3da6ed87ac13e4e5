-- What a look at a folder, and the compaction of one, come to.
use Rattle.std.specs.Prelude.{⊤, true, false, Bool, cond, nat_lt, IsTrue, OnOk, OnErr, IfOk, IfErr}
use Rattle.std.proofs.Common.{◌≡◌, ℕ, ◌⊎◌, inl, inr, List, [], length, None, Some, Ok, Err, refl, sym, ap, ◌∙◌, subst, true≢false}
use Rattle.std.specs.declared.option.Option.{Option}
use Rattle.std.specs.declared.result.Result.{Result}
use Rattle.ziti_outside.specs.Images.{Image, After}
use Rattle.ziti_outside.specs.Moments.{Leaves}
use Rattle.ziti_outside.specs.Told.{AreTaken, Took}
use Rattle.ziti_outside.specs.Causes.{HasCause}
use Rattle.ziti_outside.specs.Untouched.{OnlyDisk, OnlyNotes, OnlyReads}
use Rattle.ziti_outside.specs.declared.desk.Part.{Part}
use Rattle.ziti_outside.specs.declared.desk.Part.TheVariants.{Mark}
use Rattle.ziti_outside.proofs.MomentLaws.{Elapses-then, Elapses-weaker, Leaves-weaker}
use Rattle.ziti_outside.specs.Views.{Seen, Stopped}
use Rattle.slot_files.specs.FolderImage.{Stands, StandsAsBefore, slot_of}
use Rattle.ctrl_model.specs.declared.commands.Command.TheVariants.{Compact}
use Rattle.ctrl_model.specs.declared.refusals.Refusal.TheVariants.{JournalFull, MarkFull}
use Rattle.ctrl_model.specs.declared.replies.Reply.{Reply}
use Rattle.ctrl_model.specs.declared.replies.Reply.TheVariants.{Done, Refused}
use Rattle.ctrl_model.specs.State.{State}
use Rattle.ctrl_model.specs.ValidState.{ValidState}
use Rattle.row_store.specs.declared.bounds.StoreBounds.{StoreBounds}
use Rattle.slot_reading.specs.BatchRows.{ByteRows}
use Rattle.row_store.specs.RewrittenStores.{compacted, compacted_size, IsRewritten}
use Rattle.row_store.specs.StoredRows.{ReadsAs}
use Rattle.ctrl_keep.specs.declared.faults.KeepFault.{KeepFault}
use Rattle.ctrl_keep.specs.declared.faults.KeepFault.TheVariants as keep
use Rattle.row_store.specs.OpenedStates.{byte_rows_of, OpensToState}
use Rattle.ctrl_keep.specs.KeptMachine.{Machine, compacted_place, is_compact}
use Rattle.ctrl_keep.specs.KeptBatches.{mark_at}
use Rattle.ctrl_keep.specs.KeptController.{Controlled, HoldsRows, machine_of, place_of}
use Rattle.ctrl_keep.specs.MigratedFolders.{Migrates, MigratesBy}
use Rattle.row_store.proofs.OneStates.{one_state, still_opens}
use Rattle.ctrl_keep.specs.Faults.{disk_failure, PeekFails, SubmitFails}
use Rattle.run_notes.specs.declared.ends.Full.{Full}
use Rattle.run_notes.specs.declared.ends.Full.TheVariants as full
use Rattle.run_notes.specs.declared.status.Status.{Status}
use Rattle.run_notes.specs.declared.status.Status.TheVariants as ending
use Rattle.run_notes.specs.NotedLines.{FindsNoMore}
use Rattle.run_notes.proofs.NoteLaws.{notes_from}
use Rattle.ctrl_serve.specs.FolderRuns.{TellsClosed, TellsCompaction, TellsRoom, full_in}
use Rattle.ctrl_serve.specs.FolderWords.{Looks, Compacts, EndsCompaction, IsCompacted, compaction, refusal_of}
use Rattle.ctrl_serve.specs.Headline.{IsLeftAlone, IsUnopened}
use Rattle.ctrl_serve.specs.Loads.{SaysOneLine}
use Rattle.ctrl_serve.specs.OpenedFolders.{Keeps}
use Rattle.ctrl_serve.specs.RunStops.{AllOpenTo}
use Rattle.ctrl_serve.specs.Runs.{IsDiskCaused}
use Rattle.serve_loop.proofs.IntakeLaws.{disk_calm, disk_fault}
use Rattle.ctrl_serve.proofs.OpenedMachines.{kept_keeps, opens_by, opens_first, roomy_by, Made}
use Rattle.ctrl_serve.proofs.FollowedRuns.{kept_by, opened_by}
use Rattle.ctrl_serve.proofs.ClosedFolders.{peeks_none, unopened}
use Rattle.ctrl_core.specs.KeptFormat.{kept_format}

-- ---- notes behind the calls on a folder

-- They leave no image and no reply bytes more.
pub notes_leave : {D : Type 0} {seen : D → Seen} {stopped : D → Stopped} {old mid new : D} {images : Image → Type 0}
    → Leaves seen stopped old mid images → OnlyNotes seen stopped mid new → FindsNoMore stopped mid new → Leaves seen stopped old new images
notes_leave calls notes more = record {
  time = Elapses-then _ calls.time more (λ i w p. p) (λ i w none. absurd none);
  found = λ i p. calls.found i (notes.found i p);
  quiet = notes.replies ∙ calls.quiet;
}

-- ---- a look at a folder

-- A folder that was looked at and opens to no state was not opened.
pub unaudited : {D : Type 0} {seen : D → Seen} {stopped : D → Stopped}
    (tells : Bool) (fault : KeepFault) (desk mid now : D) (status : Status) → OnlyReads seen stopped desk mid
    → OnlyNotes seen stopped mid now → FindsNoMore stopped mid now → PeekFails tells (seen desk).reads fault
    → TellsClosed fault status (seen mid) (seen now)
    → IsUnopened None tells seen stopped desk now status
unaudited tells fault desk mid now status looks notes more fails told = unopened None tells fault desk mid now status (peeks_none tells fault desk mid looks fails) notes more told

-- It was left alone.
pub looked_alone : {D : Type 0} {seen : D → Seen} {stopped : D → Stopped} {desk mid : D}
    → OnlyReads seen stopped desk mid → IsLeftAlone seen stopped desk mid
looked_alone {stopped = stopped} {desk = desk} looks = record {
  parts = looks.parts;
  found = looks.stops.found;
  stops = Elapses-weaker (λ image taken. (stopped desk).images image) looks.stops.time (λ i w p. p.found);
}

-- The line was said of the state to which it opens.
pub audited : {D : Type 0} {seen : D → Seen}
    (line : State → List ℕ) (tells : Bool) (s : State) (desk mid now : D) (status : Status) → OnlyDisk seen desk mid → ValidState s → (IsTrue tells → OpensToState (seen desk).reads s)
    → SaysOneLine (line s) (seen mid) (seen now) status → Looks line tells (seen desk) (seen now) status
audited {seen = seen} line tells s desk mid now status calls valid opens says = record {
  state = s;
  valid = valid;
  opens = opens;
  says = record {
    said = says.said;
    took = subst (λ (x : Option (List ℕ)). Took x (seen now).said says.said) calls.replies says.took;
    says = says.says;
    notes = notes_from _ (seen desk) (seen mid) (seen now) calls.notes calls.failed_notes says.notes;
  };
}

-- ---- what the machine makes of Compact

-- It is refused by the part without room, and the machine is as it was.
record IsRefused (m : Machine) (a : Reply × Machine) : Type 0 where
  pub full : Full
  pub reply : a.0 ≡ Refused (refusal_of full)
  pub same : a.1 ≡ m

answers_by : (a b : Bool) (m next : Machine) → ((cond {A = Reply × Machine} a (Refused JournalFull, m) (cond {A = Reply × Machine} b (Done, next) (Refused MarkFull, m))).0 ≡ Done)
    ⊎ IsRefused m (cond {A = Reply × Machine} a (Refused JournalFull, m) (cond {A = Reply × Machine} b (Done, next) (Refused MarkFull, m)))
answers_by true b m next = inr (record { full = full.Journal; reply = refl; same = refl })
answers_by false true m next = inl refl
answers_by false false m next = inr (record { full = full.Mark; reply = refl; same = refl })

-- It is done, or refused.
compaction_answers : (k : Controlled) → ((compaction k.stored.bounds (machine_of k)).0 ≡ Done) ⊎ IsRefused (machine_of k) (compaction k.stored.bounds (machine_of k))
compaction_answers k =
    answers_by (nat_lt k.stored.bounds.slot (compacted_size (byte_rows_of kept_format k.state))) (nat_lt k.stored.mark k.stored.bounds.mark) (machine_of k)
    (record { state = k.state; place = Some (compacted_place k.state (place_of k.stored)) })

state_by : (a b : Bool) (m next : Machine) → next.state ≡ m.state → (cond {A = Reply × Machine} a (Refused JournalFull, m) (cond {A = Reply × Machine} b (Done, next) (Refused MarkFull, m))).1.state ≡ m.state
state_by true b m next e = refl
state_by false true m next e = e
state_by false false m next e = refl

-- The state stays.
compaction_state : (k : Controlled) → (compaction k.stored.bounds (machine_of k)).1.state ≡ k.state
compaction_state k =
    state_by (nat_lt k.stored.bounds.slot (compacted_size (byte_rows_of kept_format k.state))) (nat_lt k.stored.mark k.stored.bounds.mark) (machine_of k)
    (record { state = k.state; place = Some (compacted_place k.state (place_of k.stored)) }) refl

-- Each such refusal tells its part.
full_of_refusal : (f : Full) → full_in (Refused (refusal_of f)) ≡ Some f
full_of_refusal full.Journal = refl
full_of_refusal full.Mark = refl

-- ---- what came of a compaction

-- The folder of a controller that compacted it.
folder_compacted : (k next : Controlled) (before reads : Image) (images left : Image → Type 0)
    → HoldsRows k → ReadsAs k.stored before images → HoldsRows next → ReadsAs next.stored reads left → machine_of next ≡ (compaction k.stored.bounds (machine_of k)).1
    → IsRewritten kept_format k.stored.rows k.stored before reads → IsCompacted k.stored.bounds (machine_of k) reads
folder_compacted k next before reads images left holds stands held stood goes made = record {
  keeps = subst (λ (m : Machine). Keeps reads m) goes (kept_keeps next reads left held stood);
  stands = subst (λ (rows : ByteRows). Stands kept_format reads (compacted rows)) holds.rows made.stands;
  cut = λ place at.
      let mark : k.stored.mark ≡ place.mark = ap mark_at at in
      subst (λ (p : Part). reads p ≡ []) (stands.kept.part ∙ ap slot_of mark) made.cut;
}

-- What came of Compact, which was submitted to a controller that was not spent.
pub record Submitted {D : Type 0} (tells : Bool) (seen : D → Seen) (stopped : D → Stopped) (k next : Controlled) (desk mid : D) (r : Result Reply KeepFault) : Type 0 where
  pub fresh : k.spent ≡ false
  pub holds : HoldsRows k
  pub stands : IsTrue tells → ReadsAs k.stored (seen desk).reads (stopped desk).images
  pub step : IfOk r (λ reply. (reply, machine_of next) ≡ compaction k.stored.bounds (machine_of k))
  pub unspent : OnOk r ((k.spent ≡ false) × (next.spent ≡ false) × (next.stored.bounds ≡ k.stored.bounds))
  pub held : next.spent ≡ false → HoldsRows next
  pub made : IfOk r (λ reply. is_compact Compact ≡ true → reply ≡ Done → IsTrue tells → IsRewritten kept_format k.stored.rows k.stored (seen desk).reads (seen mid).reads)
  pub fault : IfErr r (λ fault. SubmitFails k next desk mid fault)
  pub fits : OnErr r (k.spent ≡ false → is_compact Compact ≡ true → (compaction k.stored.bounds (machine_of k)).0 ≡ Done)
  pub stood : next.spent ≡ false → IsTrue tells → ReadsAs next.stored (seen mid).reads (stopped mid).images

-- How it ended since a desk that had noted the same.
ends_from : (status : Status) (bounds : StoreBounds) (m : Machine) (tells : Bool) (a b n : Seen) → b.noted ≡ a.noted → b.note_faults ≡ a.note_faults
    → EndsCompaction status bounds m tells b n → EndsCompaction status bounds m tells a n
ends_from ending.Done bounds m tells a b n q r ends = (ends.0, notes_from _ a b n q r ends.1, ends.2)
ends_from ending.Usage bounds m tells a b n q r ends = absurd ends
ends_from ending.BadInput bounds m tells a b n q r ends = absurd ends
ends_from ending.Truncated bounds m tells a b n q r ends = absurd ends
ends_from ending.ReadFault bounds m tells a b n q r ends = absurd ends
ends_from ending.WriteFault bounds m tells a b n q r ends = absurd ends
ends_from ending.DiskFault bounds m tells a b n q r ends = (ends.0, notes_from _ a b n q r ends.1)
ends_from ending.Damaged bounds m tells a b n q r ends = absurd ends
ends_from ending.NoMemory bounds m tells a b n q r ends = (ends.0, notes_from _ a b n q r ends.1)
ends_from ending.InputTooLong bounds m tells a b n q r ends = absurd ends
ends_from ending.FolderFull bounds m tells a b n q r ends = record { full = ends.full; refused = ends.refused; notes = notes_from _ a b n q r ends.notes; keeps = ends.keeps }

-- It was done.
done_ends : {D : Type 0} {seen : D → Seen} {stopped : D → Stopped} (tells : Bool) (k next : Controlled) (desk mid : D) (reply : Reply) (c d : Seen) (status : Status)
    → Submitted tells seen stopped k next desk mid (Ok reply) → d.reads ≡ (seen mid).reads → TellsCompaction (Ok reply) status c d → (compaction k.stored.bounds (machine_of k)).0 ≡ Done
    → EndsCompaction status k.stored.bounds (machine_of k) tells c d
done_ends {seen = seen} {stopped = stopped} tells k next desk mid reply c d status s same told done =
    let is : reply ≡ Done = ap (λ (a : Reply × Machine). a.0) s.step ∙ done in
    let end : TellsRoom None status c d = subst (λ (o : Option Full). TellsRoom o status c d) (ap full_in is) told in
    let goes : machine_of next ≡ (compaction k.stored.bounds (machine_of k)).1 = ap (λ (a : Reply × Machine). a.1) s.step in
    subst (λ (u : Status). EndsCompaction u k.stored.bounds (machine_of k) tells c d) (sym end.0) (
      done,
      end.1,
      λ yes. subst (λ (i : Image). IsCompacted k.stored.bounds (machine_of k) i) (sym same)
          (folder_compacted k next (seen desk).reads (seen mid).reads (stopped desk).images (stopped mid).images s.holds (s.stands yes) (s.held s.unspent.1) (s.stood s.unspent.1 yes) goes (s.made refl is yes)),
    )

-- It was refused.
refused_ends : {D : Type 0} {seen : D → Seen} {stopped : D → Stopped} (tells : Bool) (k next : Controlled) (desk mid : D) (reply : Reply) (c d : Seen) (status : Status)
    → Submitted tells seen stopped k next desk mid (Ok reply) → d.reads ≡ (seen mid).reads → TellsCompaction (Ok reply) status c d → IsRefused (machine_of k) (compaction k.stored.bounds (machine_of k))
    → EndsCompaction status k.stored.bounds (machine_of k) tells c d
refused_ends {seen = seen} {stopped = stopped} tells k next desk mid reply c d status s reads told refused =
    let is : reply ≡ Refused (refusal_of refused.full) = ap (λ (a : Reply × Machine). a.0) s.step ∙ refused.reply in
    let end : TellsRoom (Some refused.full) status c d = subst (λ (o : Option Full). TellsRoom o status c d) (ap full_in is ∙ full_of_refusal refused.full) told in
    let same : machine_of next ≡ machine_of k = ap (λ (a : Reply × Machine). a.1) s.step ∙ refused.same in
    subst (λ (u : Status). EndsCompaction u k.stored.bounds (machine_of k) tells c d) (sym end.0) (record {
      full = refused.full;
      refused = refused.reply;
      notes = end.1;
      keeps = λ yes. subst (λ (i : Image). Keeps i (machine_of k)) (sym reads)
          (subst (λ (m : Machine). Keeps (seen mid).reads m) same (kept_keeps next (seen mid).reads (stopped mid).images (s.held s.unspent.1) (s.stood s.unspent.1 yes)));
    })

-- How the run ended.
ends_submitted : {D : Type 0} {seen : D → Seen} {stopped : D → Stopped} (tells : Bool) (k next : Controlled) (desk mid : D) (r : Result Reply KeepFault) (c d : Seen) (status : Status)
    → Submitted tells seen stopped k next desk mid r → d.reads ≡ (seen mid).reads → TellsCompaction r status c d → EndsCompaction status k.stored.bounds (machine_of k) tells c d
ends_submitted {seen = seen} tells k next desk mid (Ok reply) c d status s same told =
    elim (compaction_answers k) as (λ _. EndsCompaction status k.stored.bounds (machine_of k) tells c d) [
      | inl done ↦ done_ends tells k next desk mid reply c d status s same told done
      | inr refused ↦ refused_ends tells k next desk mid reply c d status s same told refused
    ]
ends_submitted tells k next desk mid (Err keep.Disk) c d status s same told =
    subst (λ (u : Status). EndsCompaction u k.stored.bounds (machine_of k) tells c d) (sym told.0) (s.fits s.fresh refl, told.1)
ends_submitted tells k next desk mid (Err keep.Full) c d status s same told = absurd s.fault
ends_submitted tells k next desk mid (Err keep.MarkFull) c d status s same told = absurd s.fault
ends_submitted tells k next desk mid (Err (keep.Damaged part at)) c d status s same told = absurd s.fault
ends_submitted tells k next desk mid (Err keep.Spent) c d status s same told = absurd (true≢false (sym s.fault.0 ∙ s.fresh))
ends_submitted tells k next desk mid (Err keep.NoMemory) c d status s same told =
    subst (λ (u : Status). EndsCompaction u k.stored.bounds (machine_of k) tells c d) (sym told.0) (s.fits s.fresh refl, told.1)

-- Where it has no room nothing was done.
full_still : {D : Type 0} {seen : D → Seen} {stopped : D → Stopped} (tells : Bool) (k next : Controlled) (desk mid : D) (r : Result Reply KeepFault) (c d : Seen) (status : Status)
    → Submitted tells seen stopped k next desk mid r → OnOk r (machine_of next ≡ machine_of k → mid ≡ desk) → TellsCompaction r status c d → status ≡ ending.FolderFull → mid ≡ desk
full_still tells k next desk mid (Ok reply) c d status s still told is =
    elim (compaction_answers k) as (λ _. mid ≡ desk) [
      | inl done ↦
          let same : reply ≡ Done = ap (λ (a : Reply × Machine). a.0) s.step ∙ done in
          let end : TellsRoom None status c d = subst (λ (o : Option Full). TellsRoom o status c d) (ap full_in same) told in
          let was = end.0 in
          absurd cc
      | inr refused ↦ still (ap (λ (a : Reply × Machine). a.1) s.step ∙ refused.same)
    ]
full_still tells k next desk mid (Err keep.Disk) c d status s still told is = let was = told.0 in absurd cc
full_still tells k next desk mid (Err keep.Full) c d status s still told is = absurd s.fault
full_still tells k next desk mid (Err keep.MarkFull) c d status s still told is = absurd s.fault
full_still tells k next desk mid (Err (keep.Damaged part at)) c d status s still told is = absurd s.fault
full_still tells k next desk mid (Err keep.Spent) c d status s still told is = absurd (true≢false (sym s.fault.0 ∙ s.fresh))
full_still tells k next desk mid (Err keep.NoMemory) c d status s still told is = let was = told.0 in absurd cc

pub full_reads : {D : Type 0} {seen : D → Seen} {stopped : D → Stopped} (tells : Bool) (k next : Controlled) (desk mid : D) (now : Image) (r : Result Reply KeepFault) (c d : Seen) (status : Status)
    → Submitted tells seen stopped k next desk mid r → OnOk r (machine_of next ≡ machine_of k → mid ≡ desk) → now ≡ (seen mid).reads → TellsCompaction r status c d → status ≡ ending.FolderFull → now ≡ (seen desk).reads
full_reads {seen = seen} tells k next desk mid now r c d status s still same told is = same ∙ ap (λ d. (seen d).reads) (full_still tells k next desk mid r c d status s still told is)

-- And once that was noted.
pub compaction_ends : {D : Type 0} {seen : D → Seen} {stopped : D → Stopped} (tells : Bool) (k next : Controlled) (desk mid now : D) (r : Result Reply KeepFault) (status : Status)
    → Submitted tells seen stopped k next desk mid r → OnlyDisk seen desk mid → (seen now).reads ≡ (seen mid).reads → TellsCompaction r status (seen mid) (seen now)
    → EndsCompaction status k.stored.bounds (machine_of k) tells (seen desk) (seen now)
compaction_ends {seen = seen} tells k next desk mid now r status s calls same told =
    ends_from status k.stored.bounds (machine_of k) tells (seen desk) (seen mid) (seen now) calls.notes calls.failed_notes
    (ends_submitted tells k next desk mid r (seen mid) (seen now) status s same told)

-- A part without room, or none, is no fault of the disk.
room_calm : (o : Option Full) (status : Status) (c d : Seen) → TellsRoom o status c d → status ≡ ending.DiskFault → ⊥
room_calm None status c d told e = let is = told.0 in cc
room_calm (Some f) status c d told e = let is = told.0 in cc

-- A run ends with a disk fault exactly where a call on the disk failed.
pub compaction_disk : (before mid now : ℕ) (r : Result Reply KeepFault) (status : Status) (c d : Seen) → HasCause before mid (disk_failure r) → now ≡ mid → TellsCompaction r status c d
    → IsDiskCaused before now status
compaction_disk before mid now (Ok reply) status c d cause still told = disk_calm before now status (still ∙ cause.calm) (room_calm (full_in reply) status c d told)
compaction_disk before mid now (Err keep.Disk) status c d cause still told =
    subst (λ (u : Status). IsDiskCaused before now u) (sym told.0) (disk_fault before mid now keep.Disk (disk_failure {T = Reply} (Err keep.Disk)) refl cause still)
compaction_disk before mid now (Err keep.Full) status c d cause still told = disk_calm before now status (still ∙ cause.calm) (λ e. let is = told.0 in cc)
compaction_disk before mid now (Err keep.MarkFull) status c d cause still told = disk_calm before now status (still ∙ cause.calm) (λ e. let is = told.0 in cc)
compaction_disk before mid now (Err (keep.Damaged part at)) status c d cause still told = disk_calm before now status (still ∙ cause.calm) (λ e. let is = told.0 in cc)
compaction_disk before mid now (Err keep.Spent) status c d cause still told = disk_calm before now status (still ∙ cause.calm) (λ e. let is = told.0 in cc)
compaction_disk before mid now (Err keep.NoMemory) status c d cause still told = disk_calm before now status (still ∙ cause.calm) (λ e. let is = told.0 in cc)

-- Every image that a stop leaves opens to the state that stood.
pub compaction_stops : {D : Type 0} {seen : D → Seen} {stopped : D → Stopped} {old new : D} (k : Controlled)
    → Leaves seen stopped old new (λ image. OpensToState image k.state ⊎ OpensToState image (compaction k.stored.bounds (machine_of k)).1.state)
    → Leaves seen stopped old new (λ image. OpensToState image k.state)
compaction_stops k calls = Leaves-weaker (λ image. OpensToState image k.state) calls (λ image p. one_of image p)
  where
    one_of : (image : Image) → OpensToState image k.state ⊎ OpensToState image (compaction k.stored.bounds (machine_of k)).1.state → OpensToState image k.state
    one_of image (inl opens) = opens
    one_of image (inr opens) = subst (λ (s : State). OpensToState image s) (compaction_state k) opens

-- ---- the compaction of a folder

-- An image that stands for what one of these stood for opens to the state to which they all open; and so does one that a migration of the
-- folder left.
still_stands : (bounds : StoreBounds) (A : Type 0) (reads : Image) (images : Image → Type 0) (s : State) → OpensToState reads s → AllOpenTo images s → (image : Image)
    → After (StandsAsBefore kept_format) images image ⊎ ((u : State) × (A × Migrates bounds reads u) × OpensToState image u) → OpensToState image s
still_stands bounds A reads images s opens all image (inl p) = still_opens kept_format p.from image s p.by (all p.from p.was)
still_stands bounds A reads images s opens all image (inr (u, (may, migrates), found)) =
    subst (OpensToState image) (one_state reads u s (opens_first reads u migrates.opens) opens) found

-- A folder that was opened was compacted, or not.
pub compacted_opened : {D : Type 0} {seen : D → Seen} {stopped : D → Stopped}
    (bounds : StoreBounds) (k : Controlled) (tells : Bool) (desk mid now : D) (status : Status)
    → (IsTrue tells → OpensToState (seen desk).reads k.state) → (IsTrue tells → ReadsAs k.stored (seen mid).reads (stopped mid).images) → HoldsRows k → k.stored.bounds ≡ bounds
    → (IsTrue tells → Made bounds (seen desk).reads (seen mid).reads k.state) → OnlyDisk seen desk mid
    → Leaves seen stopped desk mid (λ image. ⊤)
    → (IsTrue tells → Leaves seen stopped desk mid (λ image. After (StandsAsBefore kept_format) (stopped desk).images image
    ⊎ ((s : State) × MigratesBy {T = Controlled} (Ok k) bounds (seen desk).reads s × OpensToState image s)))
    → EndsCompaction status k.stored.bounds (machine_of k) tells (seen mid) (seen now)
    → (status ≡ ending.FolderFull → (seen now).reads ≡ (seen mid).reads) → Leaves seen stopped mid now (λ image. ⊤) → (IsTrue tells → Leaves seen stopped mid now (λ image. OpensToState image k.state))
    → Compacts bounds tells (seen desk) (seen now) (stopped desk) (stopped now) status
compacted_opened {D} {seen} {stopped} bounds k tells desk mid now status opens stands holds same made calls quiet left ends full later_quiet later = record {
  machine = machine_of k;
  valid = holds.valid;
  placed = refl;
  opens = λ yes. opens_by bounds (length ((seen desk).reads Mark)) (seen desk).reads (seen mid).reads (stopped mid).images k refl (opens yes) holds (stands yes) (made yes);
  migrates = λ yes. roomy_by bounds (seen desk).reads (seen mid).reads (stopped mid).images k (opens yes) holds (stands yes) (made yes);
  ends = subst (λ (n : StoreBounds). EndsCompaction status n (machine_of k) tells (seen desk) (seen now)) same
      (ends_from status k.stored.bounds (machine_of k) tells (seen desk) (seen mid) (seen now) calls.notes calls.failed_notes ends);
  refused_stands = λ yes is batches s. subst (λ (i : Image). Stands kept_format i batches) (sym (full is)) (opened_by bounds (seen desk).reads (seen mid).reads (machine_of k) batches (kept_keeps k (seen mid).reads (stopped mid).images holds (stands yes)) (made yes) s);
  refused_still = λ yes is keeps. full is ∙ kept_by bounds (seen desk).reads (seen mid).reads (machine_of k) keeps (kept_keeps k (seen mid).reads (stopped mid).images holds (stands yes)) (made yes);
  stops = λ yes all. Elapses-then (λ image taken. OpensToState image k.state) (left yes).time (later yes).time
      (λ i w p. still_stands bounds ⊤ (seen desk).reads (stopped desk).images k.state (opens yes) all i p.found) (λ i w p. p.found);
  found = λ yes. (later yes).found;
  unsaid = Elapses-then (λ image taken. AreTaken (seen desk).said taken) quiet.time later_quiet.time
      (λ i w p. p.replies) (λ i w p. subst (λ (o : Option (List ℕ)). AreTaken o w) quiet.quiet p.replies);
}

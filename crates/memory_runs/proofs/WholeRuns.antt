-- What a run that the program makes on a new desk comes to, where no call failed and memory sufficed.
use Rattle.std.specs.Prelude.{true, false, Bool, IsTrue}
use Rattle.std.proofs.Common.{◌≡◌, ◌⊎◌, inl, inr, ℕ, ◌+◌, List, [], ◌++◌, length, take, Option, Some, refl, sym, ap, ◌∙◌, subst, append-nil, arith}
use Rattle.ziti_outside.specs.Told.{Gave, Took, TookFront, IsFront}
use Rattle.ziti_outside.specs.Causes.{Rose}
use Rattle.ziti_outside.specs.declared.desk.Part.{Part}
use Rattle.ziti_outside.specs.Images.{Image}
use Rattle.ziti_outside.specs.Views.{Outside, Seen, Stopped}
use Rattle.slot_files.specs.FolderImage.{Stands}
use Rattle.row_store.specs.declared.bounds.StoreBounds.{StoreBounds}
use Rattle.row_store.specs.OpenedStates.{IsStateless, OpensToState}
use Rattle.row_store.proofs.OneStates.{one_place, stateless_opens}
use Rattle.run_notes.specs.declared.ends.Full.{Full}
use Rattle.ctrl_serve.specs.MigratedRuns.{HasRoomToOpen, LacksRoom}
use Rattle.ctrl_keep.specs.KeptBatches.{mark_at}
use Rattle.ctrl_keep.specs.KeptMachine.{Machine}
use Rattle.session_mux.specs.declared.events.Event.{Event}
use Rattle.session_mux.specs.declared.sessions.Form.{Form}
use Rattle.run_notes.specs.declared.status.Status.{Status}
use Rattle.run_notes.specs.declared.status.Status.TheVariants.{Done, Usage, BadInput, Truncated, ReadFault, WriteFault, DiskFault, Damaged, NoMemory, InputTooLong, FolderFull}
use Rattle.run_notes.specs.Endings.{is_cut, is_kept}
use Rattle.run_notes.specs.Inputs.{events_in, frames_in}
use Rattle.run_notes.specs.NotedLines.{NotesLines}
use Rattle.run_notes.specs.Notes.{damaged_note, full_note, notes_of}
use Rattle.ctrl_serve.specs.FrameAnswer.{batches_behind, last_batches, last_machine, machine_behind, replies, replies_to}
use Rattle.ctrl_serve.specs.Headline.{program_bounds, taking_of, Refuses, Replays, Serves, StaysClosed}
use Rattle.ctrl_serve.specs.OpenedFolders.{Keeps, OpensTo}
use Rattle.ctrl_serve.specs.SaidReplies.{joined, Says, SaysAll}
use Rattle.ctrl_serve.proofs.EndingLaws.{all_replies, told_took}
use Rattle.memory_runs.specs.WholeReplays.{bounds, used, is_longer, IsFull, IsNew, IsNoted, IsRefused, IsWhole, NotesInput}
use Rattle.ctrl_serve.proofs.OpenedMachines.{opens_kept}
use Rattle.memory_runs.proofs.OneMachines.{lacking_opens, machine_opens, no_room, one_machine, one_part}
use Rattle.memory_runs.proofs.UsedInputs.{AreAlike, alike}
use Rattle.ctrl_core.specs.KeptFormat.{kept_format}

-- ---- the statuses

-- A run on a folder that was opened, and that was not cut short, kept all and said the replies to what it answered.
record HasAnswered (form : Form) (b : StoreBounds) (m : Machine) (status : Status) (said : List ℕ) (answered : List Event) : Type 0 where
  pub kept : is_kept status ≡ true
  pub says : SaysAll form b m said answered

has_answered : (form : Form) (b : StoreBounds) (m : Machine) (status : Status) (said : List ℕ) (answered unanswered : List Event) → is_cut status ≡ false
    → Says form b m status said answered unanswered → HasAnswered form b m status said answered
has_answered form b m Done said answered unanswered on says = record { kept = refl; says = says }
has_answered form b m Usage said answered unanswered on says = absurd says
has_answered form b m BadInput said answered unanswered on says = record { kept = refl; says = says }
has_answered form b m Truncated said answered unanswered on says = record { kept = refl; says = says }
has_answered form b m ReadFault said answered unanswered on says = absurd (let e : true ≡ false = on in cc)
has_answered form b m WriteFault said answered unanswered on says = absurd (let e : true ≡ false = on in cc)
has_answered form b m DiskFault said answered unanswered on says = absurd (let e : true ≡ false = on in cc)
has_answered form b m Damaged said answered unanswered on says = absurd says
has_answered form b m NoMemory said answered unanswered on says = absurd (let e : true ≡ false = on in cc)
has_answered form b m InputTooLong said answered unanswered on says = record { kept = refl; says = says }
has_answered form b m FolderFull said answered unanswered on says = absurd says

-- ---- the notes

noted_front : (before now : Option (List ℕ)) (lines : List ℕ) → before ≡ Some [] → (front : TookFront before now lines) → now ≡ Some front.0
noted_front before now lines none front = told_took [] front.0 now (subst (λ (x : Option (List ℕ)). Took x now front.0) none front.2)

-- On a new desk they are the lines, or a front of them.
pub noted : (lines : List ℕ) (before now : Seen) → before.noted ≡ Some [] → before.note_faults ≡ 0 → NotesLines lines before now → IsNoted lines now
noted lines before now none calm notes =
    let same = noted_front before.noted now.noted lines none notes.part in
    record {
      part = notes.part.0;
      front = notes.part.1;
      noted = same;
      whole = λ still.
          let all : Took before.noted now.noted lines = notes.whole (λ rose. omega (arith, calm, still, rose)) in
          one_of notes.part.0 lines (sym same ∙ told_took [] lines now.noted (subst (λ (x : Option (List ℕ)). Took x now.noted lines) none all));
    }
  where
    one_of : (a b : List ℕ) → Some a ≡ Some b → a ≡ b
    one_of a b e = cc

all_answered : (events answered unanswered : List Event) → answered ++ unanswered ≡ events → unanswered ≡ [] → answered ≡ events
all_answered events answered unanswered split none = sym (append-nil answered) ∙ ap (λ (es : List Event). answered ++ es) (sym none) ∙ split

-- ---- a run on a folder that opened

same_last : (form : Form) (m : Machine) (these those : List ℕ) → events_in form these ≡ events_in form those → last_machine form bounds m these ≡ last_machine form bounds m those
same_last form m these those same = ap (λ (es : List Event). machine_behind bounds m (frames_in form es)) same

same_replies : (form : Form) (m : Machine) (these those : List ℕ) → events_in form these ≡ events_in form those → replies form bounds m these ≡ replies form bounds m those
same_replies form m these those same = ap (λ (es : List Event). joined (replies_to form bounds m es)) same

same_batches : (form : Form) (m : Machine) (these those : List ℕ) (batches : List (List ℕ)) → events_in form these ≡ events_in form those
    → last_batches form bounds m these batches ≡ last_batches form bounds m those batches
same_batches form m these those batches same = ap (λ (es : List Event). batches_behind bounds m (frames_in form es) batches) same

-- The part of the input that a run used does all that the input does.
pub serves_alike : (form : Form) (m : Machine) (input : List ℕ) (left left_now : Option (List ℕ)) (before now : Seen) (status : Status)
    → left ≡ Some input → is_cut status ≡ false → (s : Serves (taking_of form program_bounds.input) bounds m left left_now before now status)
    → AreAlike form (used s.taken) (used input) (is_longer s.taken) (is_longer input)
serves_alike form m input left left_now before now status told on s =
    alike form program_bounds.input input s.taken left_now (subst (λ (x : Option (List ℕ)). Gave x left_now s.taken) told s.gave) (s.read_on on)

replays_whole : {S D : Type 0} (o : Outside S D) (form : Form) (input : List ℕ) (source source_now : S) (desk desk_now : D) (status : Status)
    → o.left source ≡ Some input → IsNew o.tells (o.seen desk) (o.stopped desk) → is_cut status ≡ false
    → (r : Replays (taking_of form program_bounds.input) bounds o source source_now desk desk_now status)
    → IsWhole form r.machine input (o.seen desk).reads (o.seen desk_now) status
replays_whole o form input source source_now desk desk_now status told new on r =
    let s = r.serves in
    let same = serves_alike form r.machine input (o.left source) (o.left source_now) (o.seen desk) (o.seen desk_now) status told on s in
    let has = has_answered form bounds r.machine status s.said s.answered s.unanswered on s.says in
    let all : s.answered ≡ events_in form (used s.taken) = all_answered (events_in form (used s.taken)) s.answered s.unanswered s.split (s.all has.kept) in
    let last = same_last form r.machine (used s.taken) (used input) same.events in
    let keeps : Keeps (o.seen desk_now).reads (last_machine form bounds r.machine (used input)) = subst (λ (m : Machine). Keeps (o.seen desk_now).reads m) last (r.keeps has.kept new.told) in
    record {
      ends = s.ends on ∙ same.ending;
      said = told_took [] s.said (o.seen desk_now).said (subst (λ (x : Option (List ℕ)). Took x (o.seen desk_now).said s.said) new.unsaid s.took)
          ∙ ap (λ (bytes : List ℕ). Some bytes) (all_replies form bounds r.machine (used s.taken) s.said s.answered s.unanswered s.split (s.all has.kept) has.says
          ∙ same_replies form r.machine (used s.taken) (used input) same.events);
      notes = record {
        front = used s.taken;
        more = same.more;
        split = same.split;
        all = same.all;
        lines = noted (notes_of form (events_in form (used input)) (used s.taken) status) (o.seen desk) (o.seen desk_now) new.unnoted new.calm
            (subst (λ (es : List Event). NotesLines (notes_of form es (used s.taken) status) (o.seen desk) (o.seen desk_now)) (all ∙ same.events) s.notes);
      };
      keeps = keeps;
      opens = opens_kept (o.seen desk_now).reads (last_machine form bounds r.machine (used input)) keeps;
      stands = λ batches stood. subst (λ (bs : List (List ℕ)). Stands kept_format (o.seen desk_now).reads bs) (same_batches form r.machine (used s.taken) (used input) batches same.events)
          (r.stands has.kept new.told batches stood);
      same = λ kept still. r.still has.kept new.told kept (last ∙ still);
      elsewhere = λ unmigrated none. r.elsewhere has.kept new.told unmigrated (ap (λ (m : Machine). mark_at m.place) last ∙ none);
    }

-- ---- a run on a folder that was not opened

pub record StaysDamaged (before now : Seen) (status : Status) : Type 0 where
  pub ends : status ≡ Damaged
  pub part : Part
  pub at : ℕ
  pub none : IsStateless before.reads part at
  pub same : now.reads ≡ before.reads
  pub notes : NotesLines (damaged_note part at) before now

-- It is one of the first format without room to be migrated.
pub record StaysFull (before now : Seen) (status : Status) : Type 0 where
  pub ends : status ≡ FolderFull
  pub part : Full
  pub lacks : LacksRoom part bounds before.reads
  pub same : now.reads ≡ before.reads
  pub notes : NotesLines (full_note part) before now

-- Where it was not cut short, the folder is damaged, or has no room.
stays_shut : (tells : Bool) (before now : Seen) (status : Status) → IsTrue tells → is_cut status ≡ false → StaysClosed (Some bounds) tells before now status
    → StaysDamaged before now status ⊎ StaysFull before now status
stays_shut tells before now Done told on why = absurd why
stays_shut tells before now Usage told on why = absurd why
stays_shut tells before now BadInput told on why = absurd why
stays_shut tells before now Truncated told on why = absurd why
stays_shut tells before now ReadFault told on why = absurd why
stays_shut tells before now WriteFault told on why = absurd why
stays_shut tells before now DiskFault told on why = absurd (let e : true ≡ false = on in cc)
stays_shut tells before now Damaged told on why = inl (record { ends = refl; part = why.0; at = why.1; none = why.2 told; same = why.3 told; notes = why.4 })
stays_shut tells before now NoMemory told on why = absurd (let e : true ≡ false = on in cc)
stays_shut tells before now InputTooLong told on why = absurd why
stays_shut tells before now FolderFull told on why = inr (record { ends = refl; part = why.0; lacks = why.1 told; same = why.2 told; notes = why.3 })

pub closed : {S D : Type 0} (o : Outside S D) (source source_now : S) (desk desk_now : D) (status : Status) → IsNew o.tells (o.seen desk) (o.stopped desk) → is_cut status ≡ false
    → Refuses bounds o.tells o.seen o.stopped source source_now desk desk_now status → StaysDamaged (o.seen desk) (o.seen desk_now) status ⊎ StaysFull (o.seen desk) (o.seen desk_now) status
closed o source source_now desk desk_now status new on r = stays_shut o.tells (o.seen desk) (o.seen desk_now) status new.told on r.unopened.why

-- ---- all three

abbrev pub Ran : {S D : Type 0} → Outside S D → Form → (source source_now : S) (desk desk_now : D) → Status → Type 0
Ran o form source source_now desk desk_now status =
    Refuses bounds o.tells o.seen o.stopped source source_now desk desk_now status
    ⊎ Replays (taking_of form program_bounds.input) bounds o source source_now desk desk_now status

-- What opens to a machine and has room was opened.
never_shut : (before now : Seen) (status : Status) (m : Machine) → OpensTo before.reads m → HasRoomToOpen bounds before.reads → StaysDamaged before now status ⊎ StaysFull before now status → ⊥
never_shut before now status m opens roomy (inl d) = stateless_opens before.reads d.part d.at m.state d.none (machine_opens before.reads m opens)
never_shut before now status m opens roomy (inr f) = no_room f.part bounds before.reads f.lacks roomy

pub whole : {S D : Type 0} (o : Outside S D) (form : Form) (input : List ℕ) (source source_now : S) (desk desk_now : D) (status : Status) (m : Machine)
    → o.left source ≡ Some input → IsNew o.tells (o.seen desk) (o.stopped desk) → is_cut status ≡ false → OpensTo (o.seen desk).reads m → HasRoomToOpen bounds (o.seen desk).reads
    → Ran o form source source_now desk desk_now status → IsWhole form m input (o.seen desk).reads (o.seen desk_now) status
whole o form input source source_now desk desk_now status m told new on opens roomy (inl refuses) =
    absurd (never_shut (o.seen desk) (o.seen desk_now) status m opens roomy (closed o source source_now desk desk_now status new on refuses))
whole o form input source source_now desk desk_now status m told new on opens roomy (inr r) =
    subst (λ (x : Machine). IsWhole form x input (o.seen desk).reads (o.seen desk_now) status)
    (one_machine (o.seen desk).reads r.machine m (r.opens new.told) opens)
    (replays_whole o form input source source_now desk desk_now status told new on r)

refused_by : (tells : Bool) (before now : Seen) (stopped : Stopped) (status : Status) (part : Part) (at : ℕ) → IsNew tells before stopped → now.said ≡ before.said → IsStateless before.reads part at
    → StaysDamaged before now status ⊎ StaysFull before now status → IsRefused part at before.reads now status
refused_by tells before now stopped status part at new quiet none (inl d) =
    let place = one_place before.reads d.part part d.at at d.none none in
    record {
      ends = d.ends;
      said = quiet ∙ new.unsaid;
      lines = subst (λ (n : ℕ). IsNoted (damaged_note part n) now) place.1
          (subst (λ (p : Part). IsNoted (damaged_note p d.at) now) place.0 (noted (damaged_note d.part d.at) before now new.unnoted new.calm d.notes));
      same = d.same;
    }
refused_by tells before now stopped status part at new quiet none (inr f) =
    let opens = lacking_opens f.part bounds before.reads f.lacks in
    absurd (stateless_opens before.reads part at opens.0 none opens.1)

pub refused : {S D : Type 0} (o : Outside S D) (form : Form) (source source_now : S) (desk desk_now : D) (status : Status) (part : Part) (at : ℕ)
    → IsNew o.tells (o.seen desk) (o.stopped desk) → is_cut status ≡ false → IsStateless (o.seen desk).reads part at
    → Ran o form source source_now desk desk_now status → IsRefused part at (o.seen desk).reads (o.seen desk_now) status
refused o form source source_now desk desk_now status part at new on none (inl refuses) =
    refused_by o.tells (o.seen desk) (o.seen desk_now) (o.stopped desk) status part at new refuses.unopened.says_nothing none (closed o source source_now desk desk_now status new on refuses)
refused o form source source_now desk desk_now status part at new on none (inr r) =
    absurd (stateless_opens (o.seen desk).reads part at r.machine.state none (machine_opens (o.seen desk).reads r.machine (r.opens new.told)))

full_by : (tells : Bool) (before now : Seen) (stopped : Stopped) (status : Status) (part : Full) → IsNew tells before stopped → now.said ≡ before.said → LacksRoom part bounds before.reads
    → StaysDamaged before now status ⊎ StaysFull before now status → IsFull part before.reads now status
full_by tells before now stopped status part new quiet lacks (inl d) =
    let opens = lacking_opens part bounds before.reads lacks in
    absurd (stateless_opens before.reads d.part d.at opens.0 d.none opens.1)
full_by tells before now stopped status part new quiet lacks (inr f) = record {
  ends = f.ends;
  said = quiet ∙ new.unsaid;
  lines = subst (λ (p : Full). IsNoted (full_note p) now) (one_part f.part part bounds before.reads f.lacks lacks) (noted (full_note f.part) before now new.unnoted new.calm f.notes);
  same = f.same;
}

pub is_full : {S D : Type 0} (o : Outside S D) (form : Form) (source source_now : S) (desk desk_now : D) (status : Status) (part : Full)
    → IsNew o.tells (o.seen desk) (o.stopped desk) → is_cut status ≡ false → LacksRoom part bounds (o.seen desk).reads
    → Ran o form source source_now desk desk_now status → IsFull part (o.seen desk).reads (o.seen desk_now) status
is_full o form source source_now desk desk_now status part new on lacks (inl refuses) =
    full_by o.tells (o.seen desk) (o.seen desk_now) (o.stopped desk) status part new refuses.unopened.says_nothing lacks (closed o source source_now desk desk_now status new on refuses)
is_full o form source source_now desk desk_now status part new on lacks (inr r) = absurd (no_room part bounds (o.seen desk).reads lacks (r.migrates new.told))

-- What it opens to.
abbrev pub Decided : Image → Type 0
Decided image = ((m : Machine) × OpensTo image m × HasRoomToOpen bounds image) ⊎ ((part : Full) × LacksRoom part bounds image) ⊎ ((part : Part) × (at : ℕ) × IsStateless image part at)

decided_by : (before now : Seen) (status : Status) → StaysDamaged before now status ⊎ StaysFull before now status → Decided before.reads
decided_by before now status (inl d) = inr (inr (d.part, d.at, d.none))
decided_by before now status (inr f) = inr (inl (f.part, f.lacks))

pub opens_or_not : {S D : Type 0} (o : Outside S D) (form : Form) (source source_now : S) (desk desk_now : D) (status : Status)
    → IsNew o.tells (o.seen desk) (o.stopped desk) → is_cut status ≡ false → Ran o form source source_now desk desk_now status → Decided (o.seen desk).reads
opens_or_not o form source source_now desk desk_now status new on (inl refuses) =
    decided_by (o.seen desk) (o.seen desk_now) status (closed o source source_now desk desk_now status new on refuses)
opens_or_not o form source source_now desk desk_now status new on (inr r) = inl (r.machine, r.opens new.told, r.migrates new.told)

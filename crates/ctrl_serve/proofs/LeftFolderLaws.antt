-- What is in a folder behind a run, in plain words.
use Rattle.std.specs.Prelude.{◌≤◌, ◌<◌, ◌==◌, ◌%◌, ◌-◌, cond, if◌then◌else◌, nat_lt, is_some, IsTrue}
use Rattle.std.proofs.Common.{◌≡◌, ◌⊎◌, inl, inr, ℕ, zero, suc, ◌+◌, Bool, true, false, List, [], ◌∷◌, ◌++◌, length, take, None, Some, refl, sym, ap, ◌∙◌, subst, arith}
use Rattle.std.specs.declared.option.Option.{Option}
use Rattle.ziti_outside.specs.Images.{Image}
use Rattle.ziti_outside.specs.Views.{Outside, Seen, Stopped}
use Rattle.ziti_outside.specs.declared.desk.Part.{Part}
use Rattle.ziti_outside.specs.declared.desk.Part.TheVariants.{Zero, One, Mark}
use Rattle.journal_core.specs.Room.{IsWithin, KeepsRoom}
use Rattle.slot_files.specs.FolderImage.{slot_of, Stands}
use Rattle.slot_files.specs.SwitchedSlots.{other_slot}
use Rattle.row_store.specs.RewrittenStores.{compacted, compacted_size}
use Rattle.row_store.specs.declared.bounds.StoreBounds.{StoreBounds}
use Rattle.row_store.specs.OpenedStates.{byte_rows_of, IsStateless, OpensToState}
use Rattle.ctrl_model.specs.declared.refusals.Refusal.TheVariants.{JournalFull, MarkFull}
use Rattle.ctrl_model.specs.declared.replies.Reply.{Reply}
use Rattle.ctrl_model.specs.declared.replies.Reply.TheVariants as reply
use Rattle.ctrl_model.specs.State.{State, start}
use Rattle.ctrl_model.specs.ValidState.{ValidState}
use Rattle.model_laws.specs.JudgedCircuits.{AreGranted}
use Rattle.ctrl_keep.specs.KeptBatches.{mark_at}
use Rattle.ctrl_keep.specs.KeptMachine.{Machine, Place, compacted_place}
use Rattle.session_mux.specs.declared.events.Event.TheVariants.{Arrived}
use Rattle.session_mux.specs.declared.sessions.Form.{Form}
use Rattle.run_notes.specs.declared.status.Status.{Status}
use Rattle.run_notes.specs.declared.status.Status.TheVariants.{Done, Usage, BadInput, Truncated, ReadFault, WriteFault, DiskFault, Damaged, NoMemory, InputTooLong, FolderFull}
use Rattle.run_notes.specs.Endings.{is_kept}
use Rattle.run_notes.specs.Inputs.{frames_in}
use Rattle.run_notes.specs.NotedLines.{NotesLines}
use Rattle.run_notes.specs.Notes.{damaged_note}
use Rattle.ctrl_serve.specs.declared.bounds.Bounds.{Bounds}
use Rattle.ctrl_serve.specs.declared.command_line.Form as command
use Rattle.ctrl_serve.specs.declared.command_line.Form.TheVariants.{Dry, Replay, Audit, Compact, Load, Advise, Ship, Follow}
use Rattle.ctrl_serve.specs.CommandLine.{form_of}
use Rattle.ctrl_serve.proofs.AdviseWords.{advise_words}
use Rattle.ctrl_serve.specs.FolderWords.{compaction, Compacts}
use Rattle.ctrl_serve.specs.ShipWords.{SaysOf, Ships}
use Rattle.ctrl_serve.specs.FrameAnswer.{controller, last_machine}
use Rattle.ctrl_serve.specs.Headline.{folder_bounds, taking_of, IsLeftAlone, IsUnopened, Refuses, Replays, Runs, StaysClosed}
use Rattle.ctrl_serve.specs.LeftFolders.{HoldsAlone, HoldsGranted, KeepsAllFrames}
use Rattle.ctrl_serve.specs.OpenedFolders.{Keeps, OpensBy, OpensTo}
use Rattle.ctrl_serve.specs.MigratedRuns.{MigratesWithin}
use Rattle.ctrl_keep.specs.MigratedFolders.{OpensInFirst}
use Rattle.ctrl_serve.specs.RunStops.{AllOpenTo}
use Rattle.serve_loop.proofs.EndingLaws.{done_used}
use Rattle.ctrl_serve.proofs.GrantedRuns.{behind-granted}
use Rattle.ctrl_serve.proofs.OpenedMachines.{one_machine_state, opens_kept, opens_empty, stateless_marked}
use Rattle.ctrl_core.specs.KeptFormat.{kept_format}

-- ---- a replay

-- A folder that was not opened kept nothing.
closed_kept : (within : Option StoreBounds) (tells : Bool) (before now : Seen) (status : Status) → StaysClosed within tells before now status → is_kept status ≡ true → ⊥
closed_kept within tells before now Done why kept = why
closed_kept within tells before now Usage why kept = why
closed_kept within tells before now BadInput why kept = why
closed_kept within tells before now Truncated why kept = why
closed_kept within tells before now ReadFault why kept = why
closed_kept within tells before now WriteFault why kept = why
closed_kept within tells before now DiskFault why kept = cc
closed_kept within tells before now Damaged why kept = cc
closed_kept within tells before now NoMemory why kept = cc
closed_kept within tells before now InputTooLong why kept = why
closed_kept within tells before now FolderFull why kept = cc

-- Where it is done, all that the source had was used.
keeps_all : {S D : Type 0} (o : Outside S D) (form : Form) (bounds : StoreBounds) (most : ℕ) (source source_now : S) (desk desk_now : D) (bytes : List ℕ) (s : State)
    → Refuses bounds o.tells o.seen o.stopped source source_now desk desk_now Done ⊎ Replays (taking_of form most) bounds o source source_now desk desk_now Done
    → o.left source ≡ Some bytes → IsTrue o.tells → OpensToState (o.seen desk).reads s
    → KeepsAllFrames form bounds bytes s (o.seen desk).reads (o.seen desk_now).reads (o.stopped desk_now).images
keeps_all o form bounds most source source_now desk desk_now bytes s (inl closed) left told opens = absurd closed.unopened.why
keeps_all o form bounds most source source_now desk desk_now bytes s (inr r) left told opens =
    let used : take most r.serves.taken ≡ bytes = done_used (taking_of form most) (controller bounds) r.machine bytes (o.left source) (o.left source_now) (o.seen desk) (o.seen desk_now) left r.serves in
    let now : Image = (o.seen desk_now).reads in
    let keeps : Keeps now (last_machine form bounds r.machine bytes) = subst (λ (u : List ℕ). Keeps now (last_machine form bounds r.machine u)) used (r.keeps refl told) in
    record {
      machine = r.machine;
      opens = r.opens told;
      from = one_machine_state (o.seen desk).reads s r.machine opens (r.opens told);
      keeps = keeps;
      holds = opens_kept now (last_machine form bounds r.machine bytes) keeps;
      found = subst (λ (u : List ℕ). AllOpenTo (o.stopped desk_now).images (last_machine form bounds r.machine u).state) used (r.found refl told);
    }

pub done_keeps : {S D : Type 0} (o : Outside S D) (bounds : Bounds) (words : List (List ℕ)) (form : Form) (source source_now : S) (desk desk_now : D) (bytes : List ℕ) (s : State)
    → Runs o bounds words (Some (Replay form)) source source_now desk desk_now Done → o.left source ≡ Some bytes → IsTrue o.tells → OpensToState (o.seen desk).reads s
    → KeepsAllFrames form (folder_bounds bounds) bytes s (o.seen desk).reads (o.seen desk_now).reads (o.stopped desk_now).images
done_keeps o bounds words form source source_now desk desk_now bytes s runs left told opens =
    keeps_all o form (folder_bounds bounds) bounds.input source source_now desk desk_now bytes s (runs.replay form refl) left told opens

-- ---- what granted the circuits

-- What granted them stands at the opening, so in the machine to which the folder opens.
stands_there : (image : Image) (m : Machine) → OpensTo image m → HoldsGranted image → AreGranted m.state
stands_there image m opens held = subst AreGranted (sym (one_machine_state image held.0 m held.1 opens)) held.2

granted_on : {S D : Type 0} (o : Outside S D) (form : Form) (bounds : StoreBounds) (most : ℕ) (source source_now : S) (desk desk_now : D) (status : Status)
    → Refuses bounds o.tells o.seen o.stopped source source_now desk desk_now status ⊎ Replays (taking_of form most) bounds o source source_now desk desk_now status
    → IsTrue o.tells → HoldsGranted (o.seen desk).reads → is_kept status ≡ true → HoldsGranted (o.seen desk_now).reads
granted_on o form bounds most source source_now desk desk_now status (inl closed) told held kept =
    absurd (closed_kept (Some bounds) o.tells (o.seen desk) (o.seen desk_now) status closed.unopened.why kept)
granted_on o form bounds most source source_now desk desk_now status (inr r) told held kept =
    let last : Machine = last_machine form bounds r.machine (take most r.serves.taken) in
    (last.state, opens_kept (o.seen desk_now).reads last (r.keeps kept told), r.granted (stands_there (o.seen desk).reads r.machine (r.opens told) held) most)

granted_unsaid : {S D : Type 0} (o : Outside S D) (form : Form) (bounds : StoreBounds) (most : ℕ) (source source_now : S) (desk desk_now : D)
    → Refuses bounds o.tells o.seen o.stopped source source_now desk desk_now WriteFault ⊎ Replays (taking_of form most) bounds o source source_now desk desk_now WriteFault
    → IsTrue o.tells → HoldsGranted (o.seen desk).reads → HoldsGranted (o.seen desk_now).reads
granted_unsaid o form bounds most source source_now desk desk_now (inl closed) told held = absurd closed.unopened.why
granted_unsaid o form bounds most source source_now desk desk_now (inr r) told held =
    let kept = r.ahead refl told in
    let stood = stands_there (o.seen desk).reads r.machine (r.opens told) held in (
      kept.machine.state,
      opens_kept (o.seen desk_now).reads kept.machine kept.keeps,
      subst (λ (m : Machine). AreGranted m.state) (sym kept.ahead.behind) (behind-granted bounds r.machine (frames_in form (r.serves.answered ++ Arrived kept.ahead.session kept.ahead.frame ∷ [])) r.valid stood),
    )

pub kept_granted : {S D : Type 0} (o : Outside S D) (bounds : Bounds) (words : List (List ℕ)) (form : Form) (source source_now : S) (desk desk_now : D) (status : Status)
    → Runs o bounds words (Some (Replay form)) source source_now desk desk_now status → IsTrue o.tells → HoldsGranted (o.seen desk).reads → is_kept status ≡ true → HoldsGranted (o.seen desk_now).reads
kept_granted o bounds words form source source_now desk desk_now status runs told held kept =
    granted_on o form (folder_bounds bounds) bounds.input source source_now desk desk_now status (runs.replay form refl) told held kept

pub unsaid_granted : {S D : Type 0} (o : Outside S D) (bounds : Bounds) (words : List (List ℕ)) (form : Form) (source source_now : S) (desk desk_now : D)
    → Runs o bounds words (Some (Replay form)) source source_now desk desk_now WriteFault → IsTrue o.tells → HoldsGranted (o.seen desk).reads → HoldsGranted (o.seen desk_now).reads
unsaid_granted o bounds words form source source_now desk desk_now runs told held =
    granted_unsaid o form (folder_bounds bounds) bounds.input source source_now desk desk_now (runs.replay form refl) told held

-- A folder without a mark opens to the state at the start, which has no circuit.
pub empty_granted : (image : Image) → image Mark ≡ [] → HoldsGranted image
empty_granted image empty = (start, opens_empty image empty, λ row m. absurd m)

-- ---- the lengths of the slots

within_kept : {most : ℕ} {old new : Image} → KeepsRoom most old new → IsWithin most old → IsWithin most new
within_kept room within =
    let a = room.zero in
    let b = room.one in
    let c = within.zero in
    let d = within.one in
    record { zero = omega arith; one = omega arith }

pub reads_within : {S D : Type 0} (o : Outside S D) (bounds : Bounds) (words : List (List ℕ)) (form : Option command.Form) (source source_now : S) (desk desk_now : D) (status : Status)
    → Runs o bounds words form source source_now desk desk_now status → IsTrue o.tells → IsWithin bounds.slot (o.seen desk).reads → IsWithin bounds.slot (o.seen desk_now).reads
reads_within o bounds words form source source_now desk desk_now status runs told within = within_kept (runs.room.reads told) within

pub found_within : {S D : Type 0} (o : Outside S D) (bounds : Bounds) (words : List (List ℕ)) (form : Option command.Form) (source source_now : S) (desk desk_now : D) (status : Status)
    → Runs o bounds words form source source_now desk desk_now status → ((image : Image) → (o.stopped desk).images image → IsWithin bounds.slot image)
    → (image : Image) → (o.stopped desk_now).images image → IsWithin bounds.slot image
found_within o bounds words form source source_now desk desk_now status runs within image p =
    let before = runs.room.found image p in
    within_kept before.by (within before.from before.was)

-- ---- compact

done_by : (a b : Bool) (m next : Machine) → (cond {A = Reply × Machine} a (reply.Refused JournalFull, m) (cond {A = Reply × Machine} b (reply.Done, next) (reply.Refused MarkFull, m))).0 ≡ reply.Done
    → (cond {A = Reply × Machine} a (reply.Refused JournalFull, m) (cond {A = Reply × Machine} b (reply.Done, next) (reply.Refused MarkFull, m))).1 ≡ next
done_by true b m next done = absurd cc
done_by false true m next done = refl
done_by false false m next done = absurd cc

abbrev machine_at : State → Option Place → Machine
machine_at s place = record { state = s; place = place }

moved_at : (bounds : StoreBounds) (s : State) (place : Place) → (compaction bounds (machine_at s (Some place))).0 ≡ reply.Done
    → (compaction bounds (machine_at s (Some place))).1 ≡ machine_at s (Some (compacted_place s place))
moved_at bounds s place done =
    done_by (nat_lt bounds.slot (compacted_size (byte_rows_of kept_format s))) (nat_lt place.mark bounds.mark) (machine_at s (Some place)) (machine_at s (Some (compacted_place s place))) done

-- A compaction that is done moves the place alone.
moved : (bounds : StoreBounds) (m : Machine) (place : Place) → m.place ≡ Some place → (compaction bounds m).0 ≡ reply.Done → (compaction bounds m).1 ≡ machine_at m.state (Some (compacted_place m.state place))
moved bounds m place is done =
    ap (λ (p : Option Place). (compaction bounds (machine_at m.state p)).1) is
    ∙ moved_at bounds m.state place (sym (ap (λ (p : Option Place). (compaction bounds (machine_at m.state p)).0) is) ∙ done)

-- The mark of the machine to which a folder opens has a byte, and is the folder's where this has one and it is none of the first format.
record IsMarked (first : Type 0) (mark : ℕ) (place : Place) : Type 0 where
  pub some : 1 ≤ place.mark
  pub same : 0 < mark → (first → ⊥) → place.mark ≡ mark

marked : (mark : ℕ) (image : Image) (m : Machine) (place : Place) → length (image Mark) ≡ mark → OpensBy mark image m → m.place ≡ Some place → IsMarked (OpensInFirst image m.state) mark place
marked zero image m place is opens at =
    let one : place.mark ≡ 1 = sym (ap mark_at at) ∙ ap (λ (x : Machine). mark_at x.place) opens in
    record { some = omega (arith, one); same = λ some _. absurd (omega (arith, some)) }
marked (suc turn) image m place is (inl keeps) at =
    let same : place.mark ≡ suc turn = sym (ap mark_at at) ∙ ap mark_at keeps.place ∙ is in
    record { some = omega (arith, same); same = λ some _. same }
marked (suc turn) image m place is (inr migrated) at =
    let more : place.mark ≡ length (image Mark) + 1 = sym (ap mark_at at) ∙ ap mark_at migrated.place in
    record { some = omega (arith, more); same = λ some none. absurd (none migrated.first) }

-- The slots stand by turns.
slot_turns : (n : ℕ) → 1 ≤ n → slot_of (n + 1 + 1) ≡ slot_of n
slot_turns n some =
    let same : (n + 1 + 1 - 1) % 2 ≡ (n - 1) % 2 = omega (arith, some) in
    ap (λ (r : ℕ). if r == 0 then Zero else One) same

placed : (p : Option Place) → is_some p ≡ true → (place : Place) × (p ≡ Some place)
placed None some = absurd cc
placed (Some place) some = (place, refl)

holds_alone : (bounds : StoreBounds) (tells : Bool) (before now : Seen) (stopped stopped_now : Stopped) (s : State) → Compacts bounds tells before now stopped stopped_now Done
    → IsTrue tells → OpensToState before.reads s → HoldsAlone s before.reads now.reads stopped_now.images
holds_alone bounds tells before now stopped stopped_now s c told opens =
    let made = c.ends.2 told in
    let at = placed c.machine.place c.placed in
    let from : c.machine.state ≡ s = one_machine_state before.reads s c.machine opens (c.opens told) in
    let went = moved bounds c.machine at.0 at.1 c.ends.0 in
    let mark : length (now.reads Mark) ≡ at.0.mark + 1 = sym (ap mark_at made.keeps.place) ∙ ap (λ (m : Machine). mark_at m.place) went in
    let was = marked (length (before.reads Mark)) before.reads c.machine at.0 refl (c.opens told) at.1 in
    let behind : (compaction bounds c.machine).1.state ≡ s = ap (λ (m : Machine). m.state) went ∙ from in
    record {
      opens = subst (OpensToState now.reads) behind (opens_kept now.reads (compaction bounds c.machine).1 made.keeps);
      found = subst (AllOpenTo stopped_now.images) from (c.found told);
      rows = subst (λ (t : State). Stands kept_format now.reads (compacted (byte_rows_of kept_format t))) from made.stands;
      cut = subst (λ (part : Part). now.reads part ≡ []) (sym (ap other_slot mark ∙ slot_turns at.0.mark was.some)) (made.cut at.0 at.1);
      turned = λ some none. ap slot_of (mark ∙ ap (λ (n : ℕ). n + 1) (was.same some (λ first. none (subst (OpensInFirst before.reads) from first))));
    }

compacts_alone : {D : Type 0} {seen : D → Seen} {stopped : D → Stopped} (bounds : StoreBounds) (tells : Bool) (desk desk_now : D) (s : State)
    → IsUnopened (Some bounds) tells seen stopped desk desk_now Done ⊎ Compacts bounds tells (seen desk) (seen desk_now) (stopped desk) (stopped desk_now) Done
    → IsTrue tells → OpensToState (seen desk).reads s → HoldsAlone s (seen desk).reads (seen desk_now).reads (stopped desk_now).images
compacts_alone bounds tells desk desk_now s (inl closed) told opens = absurd closed.why
compacts_alone {seen = seen} {stopped = stopped} bounds tells desk desk_now s (inr c) told opens =
    holds_alone bounds tells (seen desk) (seen desk_now) (stopped desk) (stopped desk_now) s c told opens

pub done_compacts : {S D : Type 0} (o : Outside S D) (bounds : Bounds) (words : List (List ℕ)) (source source_now : S) (desk desk_now : D) (s : State) → Runs o bounds words (Some Compact) source source_now desk desk_now Done
    → IsTrue o.tells → OpensToState (o.seen desk).reads s → HoldsAlone s (o.seen desk).reads (o.seen desk_now).reads (o.stopped desk_now).images
done_compacts o bounds words source source_now desk desk_now s runs told opens =
    compacts_alone {seen = o.seen} {stopped = o.stopped} (folder_bounds bounds) o.tells desk desk_now s (runs.compact refl) told opens

-- ---- damage

-- Whatever the words, nothing was taken.
pub nothing_taken : {S D : Type 0} (o : Outside S D) (bounds : Bounds) (words : List (List ℕ)) (form : Option command.Form) (source source_now : S) (desk desk_now : D)
    → form_of words ≡ form → Runs o bounds words form source source_now desk desk_now Damaged → source_now ≡ source
nothing_taken o bounds words None source source_now desk desk_now asked runs = runs.usage_takes_nothing refl
nothing_taken o bounds words (Some Dry) source source_now desk desk_now asked runs = absurd (runs.dry refl).says
nothing_taken o bounds words (Some (Replay form)) source source_now desk desk_now asked runs =
    elim (runs.replay form refl) as (λ _. source_now ≡ source) [ inl closed ↦ closed.takes_nothing | inr on ↦ absurd on.serves.says ]
nothing_taken o bounds words (Some Audit) source source_now desk desk_now asked runs = runs.audit_takes_nothing refl
nothing_taken o bounds words (Some Compact) source source_now desk desk_now asked runs = runs.compact_takes_nothing refl
nothing_taken o bounds words (Some (Load number)) source source_now desk desk_now asked runs = runs.load_takes_nothing number refl
nothing_taken o bounds words (Some Advise) source source_now desk desk_now asked runs = runs.advise_takes_nothing refl
nothing_taken o bounds words (Some (Ship from)) source source_now desk desk_now asked runs = runs.ship_takes_nothing from refl
nothing_taken o bounds words (Some Follow) source source_now desk desk_now asked runs =
    elim (runs.follow refl) as (λ _. source_now ≡ source) [ inl closed ↦ closed.takes_nothing | inr on ↦ absurd on.serves.says ]

-- And the folder was not opened, unless it is not told and was shipped.
pub record StaysShut {D : Type 0} (tells : Bool) (seen : D → Seen) (stopped : D → Stopped) (desk desk_now : D) : Type 0 where
  pub within : Option StoreBounds
  pub unopened : IsUnopened within tells seen stopped desk desk_now Damaged

pub stays_shut : {S D : Type 0} (o : Outside S D) (bounds : Bounds) (words : List (List ℕ)) (form : Option command.Form) (source source_now : S) (desk desk_now : D)
    → form_of words ≡ form → ((from : ℕ) → form ≡ Some (Ship from) → IsTrue o.tells) → Runs o bounds words form source source_now desk desk_now Damaged
    → StaysShut o.tells o.seen o.stopped desk desk_now
stays_shut o bounds words None source source_now desk desk_now asked told runs = let e : Damaged ≡ Usage = runs.usage.1 refl in absurd cc
stays_shut o bounds words (Some Dry) source source_now desk desk_now asked told runs = absurd (runs.dry refl).says
stays_shut o bounds words (Some (Replay form)) source source_now desk desk_now asked told runs =
    elim (runs.replay form refl) as (λ _. StaysShut o.tells o.seen o.stopped desk desk_now) [ inl closed ↦ record { within = Some (folder_bounds bounds); unopened = closed.unopened } | inr on ↦ absurd on.serves.says ]
stays_shut o bounds words (Some Audit) source source_now desk desk_now asked told runs =
    elim (runs.audit refl) as (λ _. StaysShut o.tells o.seen o.stopped desk desk_now) [ inl closed ↦ record { within = None; unopened = closed } | inr on ↦ absurd on.says.says ]
stays_shut o bounds words (Some Compact) source source_now desk desk_now asked told runs =
    elim (runs.compact refl) as (λ _. StaysShut o.tells o.seen o.stopped desk desk_now) [ inl closed ↦ record { within = Some (folder_bounds bounds); unopened = closed } | inr on ↦ absurd on.ends ]
stays_shut o bounds words (Some (Load number)) source source_now desk desk_now asked told runs = absurd (runs.load number refl).says
stays_shut o bounds words (Some Advise) source source_now desk desk_now asked told runs =
    let names = advise_words words asked in
    elim (runs.advise names.identity names.service names.are refl) as (λ _. StaysShut o.tells o.seen o.stopped desk desk_now) [
      | inl closed ↦ record { within = None; unopened = closed }
      | inr on ↦ absurd on.says.says
    ]
stays_shut o bounds words (Some (Ship from)) source source_now desk desk_now asked told runs =
    elim (runs.ship from refl) as (λ _. StaysShut o.tells o.seen o.stopped desk desk_now) [
      | inl closed ↦ record { within = None; unopened = closed }
      | inr on ↦ absurd (on.notes.2 (told from refl))
    ]
stays_shut o bounds words (Some Follow) source source_now desk desk_now asked told runs =
    elim (runs.follow refl) as (λ _. StaysShut o.tells o.seen o.stopped desk desk_now) [ inl closed ↦ record { within = Some (folder_bounds bounds); unopened = closed.unopened } | inr on ↦ absurd on.serves.says ]

-- Of such a folder nothing was said, or whole frames of what it was found to open to.
pub frames_said : {D : Type 0} {seen : D → Seen} {stopped : D → Stopped} (tells : Bool) (from : ℕ) (desk desk_now : D)
    → IsUnopened None tells seen stopped desk desk_now Damaged ⊎ Ships from tells (seen desk) (seen desk_now) Damaged
    → ((seen desk_now).said ≡ (seen desk).said) ⊎ ((s : State) × ValidState s × SaysOf from s Damaged (seen desk).said (seen desk_now).said)
frames_said tells from desk desk_now (inl closed) = inl closed.says_nothing
frames_said tells from desk desk_now (inr on) = inr (on.state, on.valid, on.frames)

-- A told folder has a mark then, so it was left alone.
not_cut : (A : Type 0) (B : State → Type 0) → A ⊎ ((s : State) × ((Damaged ≡ DiskFault) × B s)) → A
not_cut A B (inl a) = a
not_cut A B (inr (s, (same, b))) = absurd cc

pub shut_alone : {D : Type 0} {seen : D → Seen} {stopped : D → Stopped} (within : Option StoreBounds) (tells : Bool) (desk desk_now : D) → IsUnopened within tells seen stopped desk desk_now Damaged → IsTrue tells
    → IsLeftAlone seen stopped desk desk_now
shut_alone {seen = seen} {stopped = stopped} within tells desk desk_now closed told =
    not_cut (IsLeftAlone seen stopped desk desk_now) (MigratesWithin within (seen desk).reads) (closed.alone told (stateless_marked (seen desk).reads closed.why.0 closed.why.1 (closed.why.2 told)))

pub shut_place : {D : Type 0} {seen : D → Seen} {stopped : D → Stopped} (within : Option StoreBounds) (tells : Bool) (desk desk_now : D) → IsUnopened within tells seen stopped desk desk_now Damaged → IsTrue tells
    → (part : Part) × (at : ℕ) × IsStateless (seen desk).reads part at × NotesLines (damaged_note part at) (seen desk) (seen desk_now)
shut_place within tells desk desk_now closed told = (closed.why.0, closed.why.1, closed.why.2 told, closed.why.4)

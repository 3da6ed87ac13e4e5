-- How the opening of the folder and the following of the frames make up a run of `follow`.
use Rattle.std.specs.Prelude.{⊤, IsSomeAnd, IsTrue}
use Rattle.std.specs.declared.option.Option.{Option}
use Rattle.std.proofs.Common.{◌≡◌, ◌⊎◌, inl, inr, ℕ, zero, suc, Bool, true, false, List, length, take, Some, None, Ok, refl, sym, ap, ap₂, ◌∙◌, subst, arith}
use Rattle.ziti_outside.specs.declared.desk.Part.TheVariants.{Mark}
use Rattle.ziti_outside.specs.Images.{Image, After}
use Rattle.ziti_outside.specs.Moments.{Elapses, Leaves}
use Rattle.ziti_outside.specs.Untouched.{OnlyDisk}
use Rattle.ziti_outside.specs.Views.{Outside}
use Rattle.ziti_outside.proofs.MomentLaws.{Leaves-weaker}
use Rattle.ctrl_model.specs.State.{State}
use Rattle.ctrl_core.specs.KeptFormat.{kept_format}
use Rattle.row_laws.proofs.SameStates.{same_from_spelled}
use Rattle.journal_core.specs.Slots.{slot_end}
use Rattle.slot_files.specs.FolderImage.{Stands, StandsAsBefore, StandsBy}
use Rattle.slot_files.specs.OpenedSlots.{Opens}
use Rattle.slot_files.proofs.StandLaws.{one_stands}
use Rattle.row_store.specs.declared.bounds.StoreBounds.{StoreBounds}
use Rattle.row_store.specs.OpenedStates.{byte_rows_of, OpensToState}
use Rattle.row_store.specs.RewrittenStores.{compacted}
use Rattle.row_store.specs.StoredRows.{ReadsAs, Stored}
use Rattle.ctrl_keep.specs.KeptController.{Controlled, HoldsRows, machine_of}
use Rattle.ctrl_keep.specs.MigratedFolders.{IsMigrated, Migrates, MigratesBy}
use Rattle.follow_core.specs.Following.{Copy}
use Rattle.follow_core.specs.FollowedCopies.{AreSoughtIn, Followed, HoldsState, copy_of, serial_in_store}
use Rattle.session_mux.specs.declared.events.Event.{Event}
use Rattle.session_mux.specs.declared.sessions.Form.{Form}
use Rattle.run_notes.specs.declared.status.Status.{Status}
use Rattle.run_notes.specs.Inputs.{events_in}
use Rattle.serve_loop.specs.Answerers.{GoesOn, IsReady, seen_by}
use Rattle.serve_loop.specs.Pieces.{intake_of, passage_of}
use Rattle.serve_loop.specs.RunStops.{StopFinds}
use Rattle.serve_loop.specs.ServedInputs.{RunsOn, taking_of}
use Rattle.serve_loop.proofs.OwnReplyLaws.{same_said, told_said}
use Rattle.ctrl_serve.specs.CopyViews.{copy_at, copy_needs, copy_serving, records_in}
use Rattle.ctrl_serve.specs.FollowWords.{AllOpenToCopy, Copies, KeepsCopy, OpensAsCopy, OpensToCopy, follower}
use Rattle.ctrl_serve.specs.MigratedRuns.{HasRoomToOpen}
use Rattle.ctrl_serve.specs.OpenedFolders.{StandsOpened}
use Rattle.ctrl_serve.specs.RunStops.{AllOpenTo}
use Rattle.ctrl_serve.proofs.CopyLaws.{copy_found, ready_as, stands_as, stands_records, state_copy, told_copy}
use Rattle.ctrl_serve.proofs.OpenedMachines.{Made, created_none, kept_keeps, kept_stands, migrated_to, opens_by, place_at, roomy_by}
use Rattle.ctrl_serve.proofs.ReplayLaws.{opening_of, serves_behind}
use Rattle.ctrl_serve.proofs.RunStopLaws.{Opening, stops_behind, stops_later_behind}

-- ---- the copy to which a folder opens

-- For which records a folder stands once it was opened.
records_by : (bounds : StoreBounds) (mark : ℕ) (image reads : Image) (images : Image → Type 0) (k : Controlled) → length (image Mark) ≡ mark → HoldsRows k → (held : ReadsAs k.stored reads images)
    → Opens kept_format mark image reads ⊎ (Migrates bounds image k.state × IsMigrated k.state image reads) → StandsOpened image (machine_of k) held.kept.batches
records_by bounds zero image reads images k is holds held (inl made) =
    inl (subst (λ (n : ℕ). StandsBy n kept_format image held.kept.batches) (sym is) (created_none image reads held.kept.batches made (kept_stands k reads images holds held)))
records_by bounds zero image reads images k is holds held (inr (migrates, made)) = absurd (omega (arith, is, migrates.opens.some))
records_by bounds (suc turn) image reads images k is holds held (inl same) =
    inl (subst (λ (i : Image). Stands kept_format i held.kept.batches) same (kept_stands k reads images holds held))
records_by bounds (suc turn) image reads images k is holds held (inr (migrates, made)) =
    let same = one_stands kept_format kept_format reads held.kept.batches (compacted (byte_rows_of kept_format k.state)) (kept_stands k reads images holds held) made.stands in
    inr (migrated_to bounds image reads (machine_of k) (kept_keeps k reads images holds held) migrates made, same.1)

-- A follower over the store of a kept controller holds the controller's state.
pub holds_state : (k : Controlled) (stored : Stored) → stored ≡ k.stored → HoldsRows k → HoldsState stored
holds_state k stored same holds = record {
  format = ap (λ (s : Stored). s.format) same ∙ holds.format;
  state = k.state;
  valid = holds.valid;
  rows = ap (λ (s : Stored). s.rows) same ∙ holds.rows;
}

-- It is ready, since no kept record was sought yet.
pub ready_first : (k : Controlled) (f : Followed) (tells : Bool) (reads : Image) (images : Image → Type 0) → f.stored ≡ k.stored → f.sought ≡ None → HoldsRows k
    → (IsTrue tells → ReadsAs k.stored reads images) → IsReady (copy_needs f) tells reads images
ready_first k f tells reads images same none holds stands =
    ready_as f tells reads images (holds_state k f.stored same holds) (λ told. record {
      stored = subst (λ (s : Stored). ReadsAs s reads images) (sym same) (stands told);
      sought = λ records stood. subst (AreSoughtIn records (serial_in_store f.stored)) (sym none) tt;
    })

-- And it is the copy to which the folder opens.
opens_as : (bounds : StoreBounds) (image reads : Image) (images : Image → Type 0) (k : Controlled) (f : Followed) → f.stored ≡ k.stored → f.parts ≡ None → OpensToState image k.state → HoldsRows k
    → ReadsAs k.stored reads images → Made bounds image reads k.state → OpensAsCopy image (copy_of (records_in reads) f)
opens_as bounds image reads images k f same none opens holds held made =
    let are = (stands_records (record { stored = k.stored; parts = None; sought = None }) reads images (holds_state k k.stored refl holds) held).1 in
    record {
      machine = machine_of k;
      valid = holds.valid;
      opens = opens_by bounds (length (image Mark)) image reads images k refl opens holds held made;
      rows = ap (λ (s : Stored). s.rows) same ∙ holds.rows;
      records = subst (λ (records : List (List ℕ)). StandsOpened image (machine_of k) records) (sym are) (records_by bounds (length (image Mark)) image reads images k refl holds held made);
      place = ap₂ place_at (held.kept.end ∙ ap slot_end (sym are)) (sym (ap (λ (s : Stored). s.mark) same));
      parts = none;
    }

-- What opens to its state opens to the copy, and the other way round.
to_copy : (k : Controlled) (c : Copy) (image : Image) → c.rows ≡ byte_rows_of kept_format k.state → OpensToState image k.state → OpensToCopy image c
to_copy k c image rows opens = record { state = k.state; opens = opens; rows = rows }

of_copy : (k : Controlled) (c : Copy) (image : Image) → HoldsRows k → c.rows ≡ byte_rows_of kept_format k.state → OpensToCopy image c → OpensToState image k.state
of_copy k c image holds rows to =
    subst (OpensToState image) (same_from_spelled kept_format to.state k.state to.opens.valid holds.valid tt tt (sym to.rows ∙ rows)) to.opens

-- ---- the run from a follower on

-- What the folder keeps where the follower is ready on it.
keeps_copy : (f : Followed) (tells : Bool) (reads : Image) (images : Image → Type 0) → IsReady (copy_needs f) tells reads images → IsTrue tells
    → IsSomeAnd (copy_at tells reads f) (KeepsCopy reads) × AllOpenToCopy images (copy_at tells reads f)
keeps_copy f tells reads images ready told =
    let held = stands_as f tells reads images ready told in
    let stands = (stands_records f reads images ready.holds held.stored).0 in
    let own : OpensToCopy reads (copy_of (records_in reads) f) =
    state_copy f.stored reads (copy_of (records_in reads) f) ready.holds refl (record { batches = held.stored.kept.batches; stands = held.stored.kept.stands; give = held.stored.kept.give }) in (
      told_copy (λ (m : Option Copy). IsSomeAnd m (KeepsCopy reads)) tells reads f told (record { opens = own; stands = stands; mark = held.stored.kept.mark }),
      λ image left. copy_found f tells reads images ready.holds held told image left,
    )

-- The same, of a machine that is the copy.
keeps_machine : (f : Followed) (m : Option Copy) (tells : Bool) (reads : Image) (images : Image → Type 0) → copy_at tells reads f ≡ m → IsReady (copy_needs f) tells reads images → IsTrue tells
    → IsSomeAnd m (KeepsCopy reads) × AllOpenToCopy images m
keeps_machine f m tells reads images is ready told =
    subst (λ (n : Option Copy). IsSomeAnd n (KeepsCopy reads) × AllOpenToCopy images n) is (keeps_copy f tells reads images ready told)

-- What the loop says of a run from a follower on.
abbrev pub RunsCopy : {S D : Type 0} → Outside S D → Form → (most : ℕ) → (f later : Followed) (source source_now : S) (desk desk_now : D) → Status → Type 0
RunsCopy o form most f later source source_now desk desk_now status =
    RunsOn (intake_of form most follower (copy_serving f) (copy_at o.tells (o.seen desk).reads f) o.tells)
    (passage_of (o.left source) (o.left source_now) false (seen_by true o.tells (o.seen desk)) (o.stopped desk) (o.stopped desk_now))
    (copy_at o.tells (o.seen desk_now).reads later) (GoesOn (copy_serving f) (copy_serving later) × IsReady (copy_needs later) o.tells (o.seen desk_now).reads (o.stopped desk_now).images)
    (seen_by true o.tells (o.seen desk_now)) status

-- From what was opened on. Opening the folder said and noted nothing.
copies_on : {S D : Type 0} (o : Outside S D) (form : Form) (bounds : StoreBounds) (most : ℕ) (k : Controlled) (f later : Followed) (source source_now : S) (desk mid now : D) (status : Status)
    → f.stored ≡ k.stored → f.parts ≡ None
    → (IsTrue o.tells → OpensToState (o.seen desk).reads k.state) → (IsTrue o.tells → ReadsAs k.stored (o.seen mid).reads (o.stopped mid).images) → HoldsRows k → f.stored.bounds ≡ bounds
    → (IsTrue o.tells → Made bounds (o.seen desk).reads (o.seen mid).reads k.state) → OnlyDisk o.seen desk mid
    → (IsTrue o.tells → Leaves o.seen o.stopped desk mid (λ image. After (StandsAsBefore kept_format) (o.stopped desk).images image
    ⊎ ((s : State) × MigratesBy {T = Controlled} (Ok k) bounds (o.seen desk).reads s × OpensToState image s)))
    → RunsCopy o form most f later source source_now mid now status
    → Copies (taking_of form most) bounds o source source_now desk now status
copies_on {D = D} o form bounds most k f later source source_now desk mid now status stored none opens stands holds same made calls left runs =
    let before = (o.seen desk).reads in
    let middle = (o.seen mid).reads in
    let after = (o.seen now).reads in
    let images = (o.stopped now).images in
    let used : List ℕ = take most runs.serves.taken in
    let m : Option Copy = copy_at o.tells middle f in
    let rows : (copy_of (records_in middle) f).rows ≡ byte_rows_of kept_format k.state = ap (λ (s : Stored). s.rows) stored ∙ holds.rows in
    let opening : IsTrue o.tells → Leaves o.seen o.stopped desk mid (Opening (o.stopped desk).images k.state) =
    λ told. Leaves-weaker _ (left told) (opening_of bounds ⊤ before (o.stopped desk).images k.state (opens told)) in
    let to : IsTrue o.tells → (i : Image) → OpensToState i k.state → IsSomeAnd m (OpensToCopy i) =
    λ told i opened. told_copy (λ (x : Option Copy). IsSomeAnd x (OpensToCopy i)) o.tells middle f told (to_copy k (copy_of (records_in middle) f) i rows opened) in
    let finds : IsTrue o.tells → Elapses (o.stopped mid) (o.stopped now) (StopFinds form (follower f.stored.bounds) m (events_in form used) (o.seen mid).said) =
    λ told. subst (λ (said : Option (List ℕ)). Elapses (o.stopped mid) (o.stopped now) (StopFinds form (follower f.stored.bounds) m (events_in form used) said))
    (told_said true o.tells (o.seen mid) told) (runs.stops refl told) in
    subst (λ (n : StoreBounds). (IsTrue o.tells → HasRoomToOpen n before) → Copies (taking_of form most) n o source source_now desk now status) same (λ roomy. record {
      machine = m;
      opens = λ told. told_copy (λ (x : Option Copy). IsSomeAnd x (OpensAsCopy before)) o.tells middle f told
          (opens_as bounds before middle (o.stopped mid).images k f stored none (opens told) holds (stands told) (made told));
      migrates = roomy;
      serves = serves_behind (seen_by true o.tells (o.seen desk)) (same_said true o.tells (o.seen desk) (o.seen mid) calls.replies) calls.notes calls.failed_notes runs.serves;
      keeps = λ kept told. let last = runs.last kept in (keeps_machine later _ o.tells after images last.0 last.1.1 told).0;
      found = λ kept told. let last = runs.last kept in (keeps_machine later _ o.tells after images last.0 last.1.1 told).1;
      ahead = λ is told.
          let ahead = runs.ahead is in
          let there = keeps_copy later o.tells after images ahead.1.1 told in
          record { machine = copy_at o.tells after later; ahead = ahead.0; keeps = there.0; found = there.1 };
      stops = λ told all. stops_behind form (follower f.stored.bounds) m k.state (events_in form used) (to told) (opening told) (finds told)
          (λ i p. of_copy k (copy_of (records_in middle) f) i holds rows (copy_told o.tells middle f told i (all i p)));
      stops_later = λ told. stops_later_behind form (follower f.stored.bounds) m k.state (events_in form used) (to told) (opening told) (finds told);
    }) (λ told. roomy_by bounds before middle (o.stopped mid).images k (opens told) holds (stands told) (made told))
  where
    copy_told : (tells : Bool) (reads : Image) (g : Followed) → IsTrue tells → (i : Image) → IsSomeAnd (copy_at tells reads g) (OpensToCopy i) → OpensToCopy i (copy_of (records_in reads) g)
    copy_told true reads g told i is = is
    copy_told false reads g told i is = absurd is

-- The same, of bounds that are those of the run.
pub copies_within : {S D : Type 0} (o : Outside S D) (form : Form) (bounds taken : StoreBounds) (most : ℕ) (k : Controlled) (f later : Followed) (source source_now : S) (desk mid now : D) (status : Status) → taken ≡ bounds
    → f.stored ≡ k.stored → f.parts ≡ None
    → (IsTrue o.tells → OpensToState (o.seen desk).reads k.state) → (IsTrue o.tells → ReadsAs k.stored (o.seen mid).reads (o.stopped mid).images) → HoldsRows k → k.stored.bounds ≡ taken
    → (IsTrue o.tells → Made taken (o.seen desk).reads (o.seen mid).reads k.state) → OnlyDisk o.seen desk mid
    → (IsTrue o.tells → Leaves o.seen o.stopped desk mid (λ image. After (StandsAsBefore kept_format) (o.stopped desk).images image
    ⊎ ((s : State) × MigratesBy {T = Controlled} (Ok k) taken (o.seen desk).reads s × OpensToState image s)))
    → RunsCopy o form most f later source source_now mid now status
    → Copies (taking_of form most) bounds o source source_now desk now status
copies_within o form bounds taken most k f later source source_now desk mid now status same stored none opens stands holds held made calls left runs =
    subst (λ (n : StoreBounds). Copies (taking_of form most) n o source source_now desk now status) same
    (copies_on o form taken most k f later source source_now desk mid now status stored none opens stands holds (ap (λ (s : Stored). s.bounds) stored ∙ held) made calls left runs)

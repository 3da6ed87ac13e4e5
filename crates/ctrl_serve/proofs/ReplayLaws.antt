-- How the opening of the folder, the serving of the frames and the notes make up a run on the folder, with the counts of their faults.
use Rattle.std.specs.Prelude.{⊤, true, false, Bool, IsTrue, Ok}
use Rattle.std.proofs.Common.{◌≡◌, ◌⊎◌, inl, inr, ℕ, List, length, take, refl, ◌∙◌, subst, arith}
use Rattle.std.specs.declared.option.Option.{Option}
use Rattle.ziti_outside.specs.Images.{Image, After}
use Rattle.ziti_outside.specs.Moments.{Leaves}
use Rattle.ziti_outside.specs.Told.{Took}
use Rattle.ziti_outside.specs.declared.desk.Part.TheVariants.{Mark}
use Rattle.ziti_outside.specs.Untouched.{OnlyDisk, OnlyNotes}
use Rattle.ziti_outside.specs.Views.{Outside, Seen, Stopped}
use Rattle.ziti_outside.proofs.MomentLaws.{Leaves-weaker}
use Rattle.ctrl_model.specs.State.{State, start}
use Rattle.ctrl_core.specs.KeptFormat.{kept_format}
use Rattle.ctrl_core.specs.KeptState.{Cored}
use Rattle.slot_files.specs.FolderImage.{StandsAsBefore}
use Rattle.row_store.specs.declared.bounds.StoreBounds.{StoreBounds}
use Rattle.row_store.specs.OpenedStates.{OpensToState}
use Rattle.row_store.specs.StoredRows.{ReadsAs}
use Rattle.row_store.proofs.OneStates.{one_state}
use Rattle.ctrl_keep.specs.KeptController.{Controlled, HoldsRows, machine_of}
use Rattle.ctrl_keep.specs.KeptMachine.{Machine}
use Rattle.ctrl_keep.specs.MigratedFolders.{Migrates, MigratesBy}
use Rattle.session_mux.specs.declared.sessions.Form.{Form}
use Rattle.session_mux.specs.declared.sessions.Form.TheVariants.{Plain}
use Rattle.session_mux.specs.Completion.{completed}
use Rattle.run_notes.specs.declared.status.Status.{Status}
use Rattle.run_notes.specs.declared.status.Status.TheVariants.{ReadFault, WriteFault, NoMemory}
use Rattle.run_notes.specs.Inputs.{events_in}
use Rattle.run_notes.specs.NotedLines.{RisesOnce}
use Rattle.run_notes.proofs.NoteLaws.{notes_from}
use Rattle.serve_loop.specs.Answerers.{Answerer, GoesOn, IsReady}
use Rattle.serve_loop.specs.Failures.{TakesUntilFailure}
use Rattle.serve_loop.specs.Pieces.{intake_of, passage_of}
use Rattle.serve_loop.specs.ServedInputs as loop
use Rattle.serve_loop.specs.ServedInputs.{RunsOn}
use Rattle.serve_loop.proofs.FailureLaws.{takes_none}
use Rattle.serve_loop.proofs.IntakeLaws.{write_calm, disk_calm}
use Rattle.ctrl_serve.specs.ControllerViews.{kept_needs, kept_serving}
use Rattle.ctrl_serve.specs.FrameAnswer.{no_bounds, alone, controller}
use Rattle.ctrl_serve.specs.Headline.{Serves, Replays, Taking, taking_of}
use Rattle.ctrl_serve.specs.MigratedRuns.{HasRoomToOpen}
use Rattle.ctrl_serve.specs.OpenedFolders.{Keeps}
use Rattle.ctrl_serve.specs.RunStops.{AllOpenTo}
use Rattle.ctrl_serve.specs.Runs.{IsDiskCaused, IsWriteCaused, RunsKept, CountsFaults}
use Rattle.ctrl_serve.proofs.ControllerLaws.{ready_reads}
use Rattle.ctrl_serve.proofs.FollowedRuns.{follows_input, opened_leaves, opened_stands_for, opened_still}
use Rattle.ctrl_serve.proofs.GrantedRuns.{behind-granted}
use Rattle.ctrl_serve.proofs.OpenedMachines.{Made, kept_found, kept_keeps, opens_by, opens_first, roomy_by}
use Rattle.ctrl_serve.proofs.RunStopLaws.{Opening, opened_stops, later_stops}

-- ---- the counts of faults

-- Where memory was wanting, and that was told, before anything was taken.
pub cut_counts : {S D : Type 0} {left : S → Option (List ℕ)} {faults : S → ℕ} {seen : D → Seen} {stopped : D → Stopped}
    (source source_now : S) (desk desk_now : D) (status : Status) → status ≡ NoMemory → faults source_now ≡ faults source → RisesOnce (faults source) (faults source_now) → TakesUntilFailure left faults source source_now
    → OnlyNotes seen stopped desk desk_now → RisesOnce (seen desk).note_faults (seen desk_now).note_faults
    → CountsFaults left faults seen source source_now desk desk_now status
cut_counts source source_now desk desk_now status is calm once until notes noted = record {
  read_fault = λ r. cc;
  failed_take = λ _. calm;
  write = write_calm _ _ status notes.failed_says (λ w. cc);
  disk = disk_calm _ _ status notes.failed_calls (λ w. cc);
  read_faults_once = once;
  note_faults_once = noted;
  takes_until_failure = until;
}

-- Where the folder was not opened.
pub closed_counts : {S D : Type 0} {left : S → Option (List ℕ)} {faults : S → ℕ} {seen : D → Seen} {stopped : D → Stopped}
    (source : S) (desk mid now : D) (status : Status) → OnlyDisk seen desk mid → OnlyNotes seen stopped mid now
    → RisesOnce (seen mid).note_faults (seen now).note_faults → IsDiskCaused (seen desk).disk_faults (seen now).disk_faults status → (status ≡ ReadFault → ⊥) → (status ≡ WriteFault → ⊥)
    → CountsFaults left faults seen source source desk now status
closed_counts {seen = seen} source desk mid now status calls notes counted disk read write = record {
  read_fault = λ r. absurd (read r);
  failed_take = λ _. refl;
  write = write_calm _ _ status (notes.failed_says ∙ calls.failed_says) write;
  disk = disk;
  read_faults_once = record { later = omega arith; once = omega arith };
  note_faults_once = subst (λ (n : ℕ). RisesOnce n (seen now).note_faults) calls.failed_notes counted;
  takes_until_failure = takes_none source;
}

-- Where it was opened before the run.
pub opened_counts : {S D : Type 0} {left : S → Option (List ℕ)} {faults : S → ℕ} {seen : D → Seen}
    (source source_now : S) (desk mid now : D) (status : Status) → OnlyDisk seen desk mid → (seen mid).disk_faults ≡ (seen desk).disk_faults
    → CountsFaults left faults seen source source_now mid now status → CountsFaults left faults seen source source_now desk now status
opened_counts {seen = seen} source source_now desk mid now status calls calm counts = record {
  read_fault = counts.read_fault;
  failed_take = counts.failed_take;
  write = subst (λ (n : ℕ). IsWriteCaused n (seen now).say_faults status) calls.failed_says counts.write;
  disk = subst (λ (n : ℕ). IsDiskCaused n (seen now).disk_faults status) calm counts.disk;
  read_faults_once = counts.read_faults_once;
  note_faults_once = subst (λ (n : ℕ). RisesOnce n (seen now).note_faults) calls.failed_notes counts.note_faults_once;
  takes_until_failure = counts.takes_until_failure;
}

-- ---- the run from a kept controller on

-- What the folder keeps where the controller is ready on it, of a machine that is that of the controller.
keeps_machine : (k : Controlled) (m : Machine) (tells : Bool) (reads : Image) (images : Image → Type 0) → machine_of k ≡ m → IsReady (kept_needs k) tells reads images → IsTrue tells
    → Keeps reads m × AllOpenTo images m.state
keeps_machine k m tells reads images is ready told =
    let stands = ready_reads k tells reads images ready told in (
      subst (λ (n : Machine). Keeps reads n) is (kept_keeps k reads images ready.holds stands),
      λ image left. subst (λ (n : Machine). OpensToState image n.state) is (kept_found k reads images ready.holds stands image left),
    )

-- What the loop says of such a run.
pub kept_runs : {S D : Type 0} (o : Outside S D) (form : Form) (most : ℕ) (k later : Controlled) (source source_now : S) (desk desk_now : D) (status : Status)
    → RunsOn (intake_of form most controller (kept_serving k) (machine_of k) o.tells) (passage_of (o.left source) (o.left source_now) false (o.seen desk) (o.stopped desk) (o.stopped desk_now))
    (machine_of later) (GoesOn (kept_serving k) (kept_serving later) × IsReady (kept_needs later) o.tells (o.seen desk_now).reads (o.stopped desk_now).images) (o.seen desk_now) status
    → RunsKept (taking_of form most) k o source source_now desk desk_now status
kept_runs o form most k later source source_now desk desk_now status runs =
    let reads = (o.seen desk_now).reads in
    let images = (o.stopped desk_now).images in
    record {
      serves = runs.serves;
      keeps = λ kept told. let last = runs.last kept in (keeps_machine later _ o.tells reads images last.0 last.1.1 told).0;
      found = λ kept told. let last = runs.last kept in (keeps_machine later _ o.tells reads images last.0 last.1.1 told).1;
      follows = λ kept told. follows_input form k.stored.bounds (take most runs.serves.taken) (machine_of k) (o.seen desk).reads reads (runs.follows refl kept told);
      stops = λ told. runs.stops refl told;
      ahead = λ is told.
          let ahead = runs.ahead is in
          let there = keeps_machine later (machine_of later) o.tells reads images refl ahead.1.1 told in
          record { machine = machine_of later; ahead = ahead.0; keeps = there.0; found = there.1 };
    }

-- A run without a folder begins at the start.
pub started_serves : (core : Cored) (most : ℕ) (l m : Option (List ℕ)) (d e : Seen) (status : Status) → core ≡ record { state = start; live = true }
    → Serves (taking_of Plain most) no_bounds (alone core.state) l m d e status → Serves (taking_of Plain most) no_bounds (alone start) l m d e status
started_serves core most l m d e status is s =
    subst (λ (k : Cored). Serves (taking_of Plain most) no_bounds (alone k.state) l m d e status) is s

-- ---- the run on the folder

-- What was said and noted since a desk that had said and noted the same, whoever answers.
abbrev pub serves_behind : {M : Type 0} {taking : Taking} {answerer : Answerer M} {m : M} {l r : Option (List ℕ)} {mid now : Seen} {status : Status} (desk : Seen)
    → mid.said ≡ desk.said → mid.noted ≡ desk.noted → mid.note_faults ≡ desk.note_faults → loop.Serves taking answerer m l r mid now status → loop.Serves taking answerer m l r desk now status
serves_behind {mid = mid} {now = now} desk replies noted failed s = record {
  taken = s.taken;
  gave = s.gave;
  few = s.few;
  answered = s.answered;
  unanswered = s.unanswered;
  split = s.split;
  all = s.all;
  said = s.said;
  took = subst (λ (x : Option (List ℕ)). Took x now.said s.said) replies s.took;
  says = s.says;
  ends = s.ends;
  read_on = s.read_on;
  near = s.near;
  notes = notes_from _ desk mid now noted failed s.notes;
}

-- What a stop within the opening may leave.
pub opening_of : (bounds : StoreBounds) (A : Type 0) (reads : Image) (images : Image → Type 0) (s : State) → OpensToState reads s → (image : Image)
    → After (StandsAsBefore kept_format) images image ⊎ ((u : State) × (A × Migrates bounds reads u) × OpensToState image u) → Opening images s image
opening_of bounds A reads images s opens image (inl p) = inl p
opening_of bounds A reads images s opens image (inr (u, (may, migrates), found)) =
    inr (subst (OpensToState image) (one_state reads u s (opens_first reads u migrates.opens) opens) found)

-- From what was opened on. Opening the folder said and noted nothing.
pub replays_on : {S D : Type 0} (o : Outside S D) (form : Form) (bounds : StoreBounds) (most : ℕ) (k : Controlled) (source source_now : S) (desk mid now : D) (status : Status)
    → (IsTrue o.tells → OpensToState (o.seen desk).reads k.state) → (IsTrue o.tells → ReadsAs k.stored (o.seen mid).reads (o.stopped mid).images) → HoldsRows k → k.stored.bounds ≡ bounds
    → (IsTrue o.tells → Made bounds (o.seen desk).reads (o.seen mid).reads k.state) → OnlyDisk o.seen desk mid
    → (IsTrue o.tells → Leaves o.seen o.stopped desk mid (λ image. After (StandsAsBefore kept_format) (o.stopped desk).images image
    ⊎ ((s : State) × MigratesBy {T = Controlled} (Ok k) bounds (o.seen desk).reads s × OpensToState image s)))
    → RunsKept (taking_of form most) k o source source_now mid now status
    → Replays (taking_of form most) bounds o source source_now desk now status
replays_on o form bounds most k source source_now desk mid now status opens stands holds same made calls left runs =
    let before = (o.seen desk).reads in
    let middle = (o.seen mid).reads in
    let after = (o.seen now).reads in
    let used : List ℕ = take most runs.serves.taken in
    let keeps : IsTrue o.tells → Keeps middle (machine_of k) = λ told. kept_keeps k middle (o.stopped mid).images holds (stands told) in
    let opening : IsTrue o.tells → Leaves o.seen o.stopped desk mid (Opening (o.stopped desk).images k.state) =
    λ told. Leaves-weaker _ (left told) (opening_of bounds ⊤ before (o.stopped desk).images k.state (opens told)) in
    subst (λ (n : StoreBounds). (IsTrue o.tells → HasRoomToOpen n before) → Replays (taking_of form most) n o source source_now desk now status) same (λ roomy. record {
      machine = machine_of k;
      valid = holds.valid;
      placed = refl;
      opens = λ told. opens_by bounds (length (before Mark)) before middle (o.stopped mid).images k refl (opens told) holds (stands told) (made told);
      migrates = roomy;
      serves = serves_behind (o.seen desk) calls.replies calls.notes calls.failed_notes runs.serves;
      keeps = runs.keeps;
      found = runs.found;
      stands = λ kept told batches. opened_stands_for form k.stored.bounds bounds (machine_of k) before middle after used batches (keeps told) (made told) (runs.follows kept told);
      still = λ kept told. opened_still form k.stored.bounds bounds (machine_of k) before middle after used (keeps told) (made told) (runs.follows kept told);
      elsewhere = λ kept told. opened_leaves form k.stored.bounds bounds (machine_of k) before middle after used (keeps told) (made told) (runs.follows kept told);
      ahead = runs.ahead;
      granted = λ stand n. behind-granted k.stored.bounds (machine_of k) (completed form (take n runs.serves.taken)) holds.valid stand;
      stops = λ told all. opened_stops form k.stored.bounds (machine_of k) (events_in form used) (opening told) (runs.stops told) all;
      stops_later = λ told. later_stops form k.stored.bounds (machine_of k) (events_in form used) (opening told) (runs.stops told);
    }) (λ told. roomy_by bounds before middle (o.stopped mid).images k (opens told) holds (stands told) (made told))

-- The same, of bounds that are those of the run.
pub replays_within : {S D : Type 0} (o : Outside S D) (form : Form) (bounds taken : StoreBounds) (most : ℕ) (k : Controlled) (source source_now : S) (desk mid now : D) (status : Status) → taken ≡ bounds
    → (IsTrue o.tells → OpensToState (o.seen desk).reads k.state) → (IsTrue o.tells → ReadsAs k.stored (o.seen mid).reads (o.stopped mid).images) → HoldsRows k → k.stored.bounds ≡ taken
    → (IsTrue o.tells → Made taken (o.seen desk).reads (o.seen mid).reads k.state) → OnlyDisk o.seen desk mid
    → (IsTrue o.tells → Leaves o.seen o.stopped desk mid (λ image. After (StandsAsBefore kept_format) (o.stopped desk).images image
    ⊎ ((s : State) × MigratesBy {T = Controlled} (Ok k) taken (o.seen desk).reads s × OpensToState image s)))
    → RunsKept (taking_of form most) k o source source_now mid now status
    → Replays (taking_of form most) bounds o source source_now desk now status
replays_within o form bounds taken most k source source_now desk mid now status same opens stands holds held made calls left runs =
    subst (λ (n : StoreBounds). Replays (taking_of form most) n o source source_now desk now status) same
    (replays_on o form taken most k source source_now desk mid now status opens stands holds held made calls left runs)

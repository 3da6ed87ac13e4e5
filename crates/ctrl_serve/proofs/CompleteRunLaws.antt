-- What the runs on a folder that opens to a state come to where no call failed but a note.
use Rattle.std.specs.Prelude.{IsSomeAnd, IsTrue}
use Rattle.std.proofs.Common.{◌≡◌, ◌⊎◌, inl, inr, ℕ, List, [], ◌∷◌, codes, Bool, true, false, None, Some, refl, ap, ◌∙◌, subst}
use Rattle.std.proofs.lemmas.Bool.{false≢true}
use Rattle.std.specs.declared.option.Option.{Option}
use Rattle.ziti_outside.specs.Images.{Image}
use Rattle.ziti_outside.specs.Views.{Outside, Seen, Stopped}
use Rattle.ctrl_model.specs.declared.formats.Format.{Format}
use Rattle.ctrl_model.specs.State.{State}
use Rattle.slot_files.specs.FolderImage.{Stands}
use Rattle.ship_frames.specs.Pieces.{written}
use Rattle.ship_core.specs.Shipping.{shipped}
use Rattle.policy_advisor.specs.Reports.{report_of}
use Rattle.row_store.specs.declared.bounds.StoreBounds.{StoreBounds}
use Rattle.ctrl_keep.specs.KeptMachine.{Machine}
use Rattle.row_store.specs.OpenedStates.{OpensToState}
use Rattle.session_mux.specs.declared.sessions.Form.{Form}
use Rattle.run_notes.specs.declared.status.Status.{Status}
use Rattle.run_notes.specs.declared.status.Status.TheVariants.{Done, Usage, BadInput, Truncated, ReadFault, WriteFault, DiskFault, Damaged, NoMemory, InputTooLong, FolderFull}
use Rattle.ctrl_serve.specs.declared.bounds.Bounds.{Bounds}
use Rattle.ctrl_serve.specs.declared.command_line.Form.TheVariants.{Replay, Audit, Compact, Advise, Ship, Follow}
use Rattle.ctrl_serve.specs.Loads.{counts_line, IsSaid}
use Rattle.ctrl_serve.specs.FolderWords.{Compacts, EndsCompaction, Looks}
use Rattle.ctrl_serve.specs.ShipWords.{SaysShipped, Ships}
use Rattle.ctrl_serve.specs.Headline.{folder_bounds, taking_of, Taking, StaysClosed, IsUnopened, IsComplete, Refuses, Replays, Runs}
use Rattle.ctrl_serve.specs.OpenedFolders.{OpensTo}
use Rattle.ctrl_core.specs.KeptFormat.{kept_format}
use Rattle.row_store.specs.OpenedStates.{byte_rows_of}
use Rattle.follow_core.specs.Following.{Copy}
use Rattle.session_mux.specs.declared.sessions.Form.TheVariants.{Plain}
use Rattle.serve_loop.specs.Answerers.{Answerer, seen_by}
use Rattle.serve_loop.specs.ServedInputs as loop
use Rattle.ctrl_serve.specs.FollowWords.{Copies, OpensAsCopy, follower}
use Rattle.ctrl_serve.specs.CompleteRuns.{IsCalm, IsFull, CompletesCopy, CompletesFrom, ComesOut, ComesOutFrom}
use Rattle.ctrl_serve.proofs.OpenedMachines.{one_machine_state}
use Rattle.row_store.proofs.OneStates.{one_state, stateless_opens}
use Rattle.ctrl_serve.specs.MigratedRuns.{HasRoomToOpen}
use Rattle.ctrl_serve.proofs.RunLaws.{line_said}
use Rattle.serve_loop.proofs.CompleteLaws.{serves_completely}

-- ---- a folder that was not opened

-- Where it opens to a state and no call on the disk failed, memory was wanting, or it has no room to be migrated.
starved : (bounds : StoreBounds) (tells : Bool) (before now : Seen) (status : Status) (s : State) → StaysClosed (Some bounds) tells before now status → IsTrue tells → OpensToState before.reads s
    → (status ≡ DiskFault → ⊥) → (status ≡ NoMemory) ⊎ IsFull bounds before.reads status
starved bounds tells before now Done s why told opens disk = absurd why
starved bounds tells before now Usage s why told opens disk = absurd why
starved bounds tells before now BadInput s why told opens disk = absurd why
starved bounds tells before now Truncated s why told opens disk = absurd why
starved bounds tells before now ReadFault s why told opens disk = absurd why
starved bounds tells before now WriteFault s why told opens disk = absurd why
starved bounds tells before now DiskFault s why told opens disk = absurd (disk refl)
starved bounds tells before now Damaged s why told opens disk = absurd (stateless_opens before.reads why.0 why.1 s (why.2 told) opens)
starved bounds tells before now NoMemory s why told opens disk = inl refl
starved bounds tells before now InputTooLong s why told opens disk = absurd why
starved bounds tells before now FolderFull s why told opens disk = inr (refl, why.0, why.1 told)

-- Where it was read alone, memory was wanting.
starved_looking : (tells : Bool) (before now : Seen) (status : Status) (s : State) → StaysClosed None tells before now status → IsTrue tells → OpensToState before.reads s
    → (status ≡ DiskFault → ⊥) → status ≡ NoMemory
starved_looking tells before now Done s why told opens disk = absurd why
starved_looking tells before now Usage s why told opens disk = absurd why
starved_looking tells before now BadInput s why told opens disk = absurd why
starved_looking tells before now Truncated s why told opens disk = absurd why
starved_looking tells before now ReadFault s why told opens disk = absurd why
starved_looking tells before now WriteFault s why told opens disk = absurd why
starved_looking tells before now DiskFault s why told opens disk = absurd (disk refl)
starved_looking tells before now Damaged s why told opens disk = absurd (stateless_opens before.reads why.0 why.1 s (why.2 told) opens)
starved_looking tells before now NoMemory s why told opens disk = refl
starved_looking tells before now InputTooLong s why told opens disk = absurd why
starved_looking tells before now FolderFull s why told opens disk = absurd why.1

-- What it came to otherwise is what may come of it.
or_else : {A B C : Type 0} → A ⊎ B → A ⊎ B ⊎ C
or_else (inl a) = inl a
or_else (inr b) = inr (inl b)

-- ---- replay

from_machine : (s : State) (taking : Taking) (bounds : StoreBounds) (m : Machine) (a b : Option (List ℕ)) (c d : Seen) (status : Status) → OpensTo c.reads m → m.state ≡ s → HasRoomToOpen bounds c.reads
    → IsComplete taking bounds m a b c d status → (status ≡ NoMemory) ⊎ IsFull bounds c.reads status ⊎ CompletesFrom s taking bounds a b c d status
from_machine s taking bounds m a b c d status to same roomy (inl wanting) = inl wanting
from_machine s taking bounds m a b c d status to same roomy (inr complete) = inr (inr (m, to, same, roomy, complete))

replayed : {S D : Type 0} (o : Outside S D) (bounds : StoreBounds) (most : ℕ) (form : Form) (source source_now : S) (desk desk_now : D) (status : Status) (s : State)
    → Refuses bounds o.tells o.seen o.stopped source source_now desk desk_now status ⊎ Replays (taking_of form most) bounds o source source_now desk desk_now status
    → IsTrue o.tells → OpensToState (o.seen desk).reads s → (status ≡ ReadFault → ⊥) → (status ≡ WriteFault → ⊥) → (status ≡ DiskFault → ⊥)
    → (status ≡ NoMemory) ⊎ IsFull bounds (o.seen desk).reads status ⊎ CompletesFrom s (taking_of form most) bounds (o.left source) (o.left source_now) (o.seen desk) (o.seen desk_now) status
replayed o bounds most form source source_now desk desk_now status s (inl closed) told opens read write disk =
    or_else (starved bounds o.tells (o.seen desk) (o.seen desk_now) status s closed.unopened.why told opens disk)
replayed o bounds most form source source_now desk desk_now status s (inr on) told opens read write disk =
    from_machine s (taking_of form most) bounds on.machine (o.left source) (o.left source_now) (o.seen desk) (o.seen desk_now) status (on.opens told) (one_machine_state (o.seen desk).reads s on.machine opens (on.opens told))
    (on.migrates told) (serves_completely status on.serves read write disk)

pub replay_is_complete : {S D : Type 0} (o : Outside S D) (bounds : Bounds) (words : List (List ℕ)) (form : Form) (source source_now : S) (desk desk_now : D) (status : Status) (s : State)
    → Runs o bounds words (Some (Replay form)) source source_now desk desk_now status
    → IsTrue o.tells → OpensToState (o.seen desk).reads s → IsCalm (o.faults source) (o.faults source_now) → IsCalm (o.seen desk).say_faults (o.seen desk_now).say_faults
    → IsCalm (o.seen desk).disk_faults (o.seen desk_now).disk_faults
    → (status ≡ NoMemory) ⊎ IsFull (folder_bounds bounds) (o.seen desk).reads status ⊎ CompletesFrom s (taking_of form bounds.input) (folder_bounds bounds) (o.left source) (o.left source_now) (o.seen desk) (o.seen desk_now) status
replay_is_complete o bounds words form source source_now desk desk_now status s runs told opens takes says disk =
    replayed o (folder_bounds bounds) bounds.input form source source_now desk desk_now status s (runs.replay form refl) told opens
    (λ r. takes (runs.read_fault r)) (λ w. says (runs.write_fault w)) (λ d. disk (runs.disk_fault d))

-- ---- follow

-- Of a told folder all that is seen is told.
told_completes : {M : Type 0} (tells : Bool) (taking : Taking) (answerer : Answerer M) (m : M) (a b : Option (List ℕ)) (c d : Seen) (status : Status) → IsTrue tells
    → loop.IsComplete taking answerer m a b (seen_by true tells c) (seen_by true tells d) status → loop.IsComplete taking answerer m a b c d status
told_completes true taking answerer m a b c d status told complete = complete
told_completes false taking answerer m a b c d status told complete = absurd (false≢true told)

from_copy : (s : State) (taking : Taking) (bounds : StoreBounds) (m : Option Copy) (a b : Option (List ℕ)) (c d : Seen) (status : Status) → IsSomeAnd m (OpensAsCopy c.reads) → OpensToState c.reads s → HasRoomToOpen bounds c.reads
    → loop.IsComplete taking (follower bounds) m a b c d status → (status ≡ NoMemory) ⊎ IsFull bounds c.reads status ⊎ CompletesCopy s taking bounds a b c d status
from_copy s taking bounds None a b c d status to opens roomy complete = absurd to
from_copy s taking bounds (Some copy) a b c d status to opens roomy (inl wanting) = inl wanting
from_copy s taking bounds (Some copy) a b c d status to opens roomy (inr complete) =
    inr (inr (copy, to, to.rows ∙ ap (byte_rows_of kept_format) (one_machine_state c.reads s to.machine opens to.opens), roomy, complete))

followed : {S D : Type 0} (o : Outside S D) (bounds : StoreBounds) (most : ℕ) (source source_now : S) (desk desk_now : D) (status : Status) (s : State)
    → Refuses bounds o.tells o.seen o.stopped source source_now desk desk_now status ⊎ Copies (taking_of Plain most) bounds o source source_now desk desk_now status
    → IsTrue o.tells → OpensToState (o.seen desk).reads s → (status ≡ ReadFault → ⊥) → (status ≡ WriteFault → ⊥) → (status ≡ DiskFault → ⊥)
    → (status ≡ NoMemory) ⊎ IsFull bounds (o.seen desk).reads status ⊎ CompletesCopy s (taking_of Plain most) bounds (o.left source) (o.left source_now) (o.seen desk) (o.seen desk_now) status
followed o bounds most source source_now desk desk_now status s (inl closed) told opens read write disk =
    or_else (starved bounds o.tells (o.seen desk) (o.seen desk_now) status s closed.unopened.why told opens disk)
followed o bounds most source source_now desk desk_now status s (inr on) told opens read write disk =
    from_copy s (taking_of Plain most) bounds on.machine (o.left source) (o.left source_now) (o.seen desk) (o.seen desk_now) status (on.opens told) opens (on.migrates told)
    (told_completes o.tells (taking_of Plain most) (follower bounds) on.machine (o.left source) (o.left source_now) (o.seen desk) (o.seen desk_now) status told (serves_completely status on.serves read write disk))

pub follow_is_complete : {S D : Type 0} (o : Outside S D) (bounds : Bounds) (words : List (List ℕ)) (source source_now : S) (desk desk_now : D) (status : Status) (s : State)
    → Runs o bounds words (Some Follow) source source_now desk desk_now status
    → IsTrue o.tells → OpensToState (o.seen desk).reads s → IsCalm (o.faults source) (o.faults source_now) → IsCalm (o.seen desk).say_faults (o.seen desk_now).say_faults
    → IsCalm (o.seen desk).disk_faults (o.seen desk_now).disk_faults
    → (status ≡ NoMemory) ⊎ IsFull (folder_bounds bounds) (o.seen desk).reads status ⊎ CompletesCopy s (taking_of Plain bounds.input) (folder_bounds bounds) (o.left source) (o.left source_now) (o.seen desk) (o.seen desk_now) status
follow_is_complete o bounds words source source_now desk desk_now status s runs told opens takes says disk =
    followed o (folder_bounds bounds) bounds.input source source_now desk desk_now status s (runs.follow refl) told opens
    (λ r. takes (runs.read_fault r)) (λ w. says (runs.write_fault w)) (λ d. disk (runs.disk_fault d))

-- ---- audit and advise

looked : {D : Type 0} {seen : D → Seen} {stopped : D → Stopped}
    (line : State → List ℕ) (tells : Bool) (desk desk_now : D) (status : Status) (s : State) → IsUnopened None tells seen stopped desk desk_now status
    ⊎ Looks line tells (seen desk) (seen desk_now) status
    → IsTrue tells → OpensToState (seen desk).reads s → (status ≡ WriteFault → ⊥) → (status ≡ DiskFault → ⊥) → IsSaid (line s) (seen desk).said (seen desk_now).said status
looked {seen = seen} line tells desk desk_now status s (inl closed) told opens write disk = inl (starved_looking tells (seen desk) (seen desk_now) status s closed.why told opens disk)
looked {seen = seen} line tells desk desk_now status s (inr on) told opens write disk =
    subst (λ (t : State). IsSaid (line t) (seen desk).said (seen desk_now).said status) (one_state (seen desk).reads on.state s (on.opens told) opens) (line_said status _ _ _ on.says write)

pub audit_is_complete : {S D : Type 0} (o : Outside S D) (bounds : Bounds) (words : List (List ℕ)) (source source_now : S) (desk desk_now : D) (status : Status) (s : State)
    → Runs o bounds words (Some Audit) source source_now desk desk_now status
    → IsTrue o.tells → OpensToState (o.seen desk).reads s → IsCalm (o.seen desk).say_faults (o.seen desk_now).say_faults → IsCalm (o.seen desk).disk_faults (o.seen desk_now).disk_faults
    → IsSaid (counts_line s) (o.seen desk).said (o.seen desk_now).said status
audit_is_complete o bounds words source source_now desk desk_now status s runs told opens says disk =
    looked {seen = o.seen} {stopped = o.stopped} counts_line o.tells desk desk_now status s (runs.audit refl) told opens
    (λ w. says (runs.write_fault w)) (λ d. disk (runs.disk_fault d))

pub advise_is_complete : {S D : Type 0} (o : Outside S D) (bounds : Bounds) (identity service : List ℕ) (source source_now : S) (desk desk_now : D) (status : Status) (s : State)
    → Runs o bounds (codes "advise" ∷ identity ∷ service ∷ []) (Some Advise) source source_now desk desk_now status
    → IsTrue o.tells → OpensToState (o.seen desk).reads s → IsCalm (o.seen desk).say_faults (o.seen desk_now).say_faults → IsCalm (o.seen desk).disk_faults (o.seen desk_now).disk_faults
    → IsSaid (report_of s identity service) (o.seen desk).said (o.seen desk_now).said status
advise_is_complete o bounds identity service source source_now desk desk_now status s runs told opens says disk =
    looked {seen = o.seen} {stopped = o.stopped} (λ t. report_of t identity service) o.tells desk desk_now status s (runs.advise identity service refl refl) told opens
    (λ w. says (runs.write_fault w)) (λ d. disk (runs.disk_fault d))

-- ---- ship

-- Where no call failed all is shipped of a folder, unless memory was wanting.
shipped_all : (tells : Bool) (from : ℕ) (before now : Seen) (status : Status) (s : State) (format : Format) (batches : List (List ℕ)) → Ships from tells before now status
    → SaysShipped status before.said now.said (shipped from format batches) → IsTrue tells → (status ≡ WriteFault → ⊥) → (status ≡ DiskFault → ⊥)
    → IsSaid (written (shipped from format batches)) before.said now.said status
shipped_all tells from before now Done s format batches on says told write disk = inr (refl, says)
shipped_all tells from before now Usage s format batches on says told write disk = absurd says
shipped_all tells from before now BadInput s format batches on says told write disk = absurd says
shipped_all tells from before now Truncated s format batches on says told write disk = absurd says
shipped_all tells from before now ReadFault s format batches on says told write disk = absurd says
shipped_all tells from before now WriteFault s format batches on says told write disk = absurd (write refl)
shipped_all tells from before now DiskFault s format batches on says told write disk = absurd (disk refl)
shipped_all tells from before now Damaged s format batches on says told write disk = absurd (on.notes.2 told)
shipped_all tells from before now NoMemory s format batches on says told write disk = inl refl
shipped_all tells from before now InputTooLong s format batches on says told write disk = absurd says
shipped_all tells from before now FolderFull s format batches on says told write disk = absurd says

shipped_whole : {D : Type 0} {seen : D → Seen} {stopped : D → Stopped}
    (tells : Bool) (from : ℕ) (desk desk_now : D) (status : Status) (s : State) (format : Format) (batches : List (List ℕ)) → IsUnopened None tells seen stopped desk desk_now status
    ⊎ Ships from tells (seen desk) (seen desk_now) status
    → IsTrue tells → OpensToState (seen desk).reads s → Stands format (seen desk).reads batches → (status ≡ WriteFault → ⊥) → (status ≡ DiskFault → ⊥)
    → IsSaid (written (shipped from format batches)) (seen desk).said (seen desk_now).said status
shipped_whole {seen = seen} tells from desk desk_now status s format batches (inl closed) told opens stands write disk =
    inl (starved_looking tells (seen desk) (seen desk_now) status s closed.why told opens disk)
shipped_whole {seen = seen} tells from desk desk_now status s format batches (inr on) told opens stands write disk =
    shipped_all tells from (seen desk) (seen desk_now) status s format batches on (on.ships told format batches stands) told write disk

pub ship_is_complete : {S D : Type 0} (o : Outside S D) (bounds : Bounds) (words : List (List ℕ)) (from : ℕ) (source source_now : S) (desk desk_now : D) (status : Status) (s : State) (format : Format)
    (batches : List (List ℕ)) → Runs o bounds words (Some (Ship from)) source source_now desk desk_now status
    → IsTrue o.tells → OpensToState (o.seen desk).reads s → Stands format (o.seen desk).reads batches → IsCalm (o.seen desk).say_faults (o.seen desk_now).say_faults
    → IsCalm (o.seen desk).disk_faults (o.seen desk_now).disk_faults → IsSaid (written (shipped from format batches)) (o.seen desk).said (o.seen desk_now).said status
ship_is_complete o bounds words from source source_now desk desk_now status s format batches runs told opens stands says disk =
    shipped_whole {seen = o.seen} {stopped = o.stopped} o.tells from desk desk_now status s format batches (runs.ship from refl) told opens stands
    (λ w. says (runs.write_fault w)) (λ d. disk (runs.disk_fault d))

-- ---- compact

-- A compaction of an opened folder came out as the machine's step does, unless memory was wanting.
comes_out : (status : Status) (bounds : StoreBounds) (m : Machine) (tells : Bool) (before now : Seen) → EndsCompaction status bounds m tells before now
    → (status ≡ DiskFault → ⊥) → (status ≡ NoMemory) ⊎ ComesOut bounds m status
comes_out Done bounds m tells before now ends disk = inr (inl (refl, ends.0))
comes_out Usage bounds m tells before now ends disk = absurd ends
comes_out BadInput bounds m tells before now ends disk = absurd ends
comes_out Truncated bounds m tells before now ends disk = absurd ends
comes_out ReadFault bounds m tells before now ends disk = absurd ends
comes_out WriteFault bounds m tells before now ends disk = absurd ends
comes_out DiskFault bounds m tells before now ends disk = absurd (disk refl)
comes_out Damaged bounds m tells before now ends disk = absurd ends
comes_out NoMemory bounds m tells before now ends disk = inl refl
comes_out InputTooLong bounds m tells before now ends disk = absurd ends
comes_out FolderFull bounds m tells before now ends disk = inr (inr (refl, ends.full, ends.refused))

out_from : (s : State) (reads : Image) (bounds : StoreBounds) (m : Machine) (status : Status) → OpensTo reads m → m.state ≡ s → HasRoomToOpen bounds reads → (status ≡ NoMemory) ⊎ ComesOut bounds m status
    → (status ≡ NoMemory) ⊎ IsFull bounds reads status ⊎ ComesOutFrom s reads bounds status
out_from s reads bounds m status to same roomy (inl wanting) = inl wanting
out_from s reads bounds m status to same roomy (inr out) = inr (inr (m, to, same, roomy, out))

compacts_from : {D : Type 0} {seen : D → Seen} {stopped : D → Stopped}
    (tells : Bool) (bounds : StoreBounds) (desk desk_now : D) (status : Status) (s : State) → IsUnopened (Some bounds) tells seen stopped desk desk_now status
    ⊎ Compacts bounds tells (seen desk) (seen desk_now) (stopped desk) (stopped desk_now) status
    → IsTrue tells → OpensToState (seen desk).reads s → (status ≡ DiskFault → ⊥)
    → (status ≡ NoMemory) ⊎ IsFull bounds (seen desk).reads status ⊎ ComesOutFrom s (seen desk).reads bounds status
compacts_from {seen = seen} tells bounds desk desk_now status s (inl closed) told opens disk = or_else (starved bounds tells (seen desk) (seen desk_now) status s closed.why told opens disk)
compacts_from {seen = seen} tells bounds desk desk_now status s (inr on) told opens disk =
    out_from s (seen desk).reads bounds on.machine status (on.opens told) (one_machine_state (seen desk).reads s on.machine opens (on.opens told)) (on.migrates told) (comes_out status bounds on.machine tells _ _ on.ends disk)

pub compact_is_complete : {S D : Type 0} (o : Outside S D) (bounds : Bounds) (words : List (List ℕ)) (source source_now : S) (desk desk_now : D) (status : Status) (s : State)
    → Runs o bounds words (Some Compact) source source_now desk desk_now status
    → IsTrue o.tells → OpensToState (o.seen desk).reads s → IsCalm (o.seen desk).disk_faults (o.seen desk_now).disk_faults → (status ≡ NoMemory) ⊎ IsFull (folder_bounds bounds) (o.seen desk).reads status ⊎ ComesOutFrom s (o.seen desk).reads (folder_bounds bounds) status
compact_is_complete o bounds words source source_now desk desk_now status s runs told opens disk =
    compacts_from {seen = o.seen} {stopped = o.stopped} o.tells (folder_bounds bounds) desk desk_now status s (runs.compact refl) told opens (λ d. disk (runs.disk_fault d))

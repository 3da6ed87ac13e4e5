-- What a stop of such a run finds.
use Rattle.std.specs.Prelude.{false, Bool}
use Rattle.std.proofs.Common.{◌≡◌, ◌⊎◌, inl, inr, ℕ, ◌≤◌, List, [], Option, Some, refl, sym, ◌∙◌, subst, arith}
use Rattle.ziti_outside.specs.Told.{AreTaken}
use Rattle.ziti_outside.specs.Images.{Image, After}
use Rattle.ziti_outside.specs.Moments.{Now}
use Rattle.ziti_outside.specs.Views.{Outside, Seen, Stopped}
use Rattle.row_store.specs.OpenedStates.{OpensToState}
use Rattle.row_store.proofs.OneStates.{still_opens, stateless_opens}
use Rattle.slot_files.specs.FolderImage.{StandsAsBefore}
use Rattle.run_notes.specs.declared.status.Status.TheVariants.{DiskFault, FolderFull}
use Rattle.ctrl_serve.specs.MigratedRuns.{LeftByMigration}
use Rattle.ctrl_core.specs.KeptFormat.{kept_format}
use Rattle.ctrl_keep.specs.KeptMachine.{Machine}
use Rattle.session_mux.specs.declared.events.Event.{Event}
use Rattle.session_mux.specs.declared.sessions.Form.{Form}
use Rattle.run_notes.specs.declared.status.Status.{Status}
use Rattle.run_notes.specs.Endings.{is_cut}
use Rattle.run_notes.specs.Inputs.{events_in}
use Rattle.ctrl_serve.specs.Headline.{program_bounds, taking_of, Refuses, Replays}
use Rattle.ctrl_serve.specs.OpenedFolders.{OpensTo}
use Rattle.ctrl_serve.specs.RunStops.{AllOpenTo, StopFinds}
use Rattle.ctrl_serve.proofs.AcknowledgedLaws.{stop_holds}
use Rattle.memory_runs.specs.WholeReplays.{bounds, used, IsNew, IsSafe}
use Rattle.memory_runs.proofs.OneMachines.{machine_opens, one_machine}
use Rattle.memory_runs.proofs.WholeRuns.{Ran, StaysDamaged, StaysFull, closed, serves_alike}

-- All that a stop might have left of a new desk opens as its folder does.
new_opens_to : (tells : Bool) (seen : Seen) (stopped : Stopped) (m : Machine) → IsNew tells seen stopped → OpensTo seen.reads m → AllOpenTo stopped.images m.state
new_opens_to tells seen stopped m new opens = λ image is. subst (λ (i : Image). OpensToState i m.state) (sym (new.still image is)) (machine_opens seen.reads m opens)

-- A stop at the first moment finds no frame answered.
first_finds : (form : Form) (m : Machine) (events : List Event) (tells : Bool) (seen : Seen) (stopped : Stopped) (image : Image) (taken : List ℕ) → IsNew tells seen stopped
    → OpensTo seen.reads m → Now stopped.images seen.said image taken → StopFinds form bounds m events (Some []) image taken
first_finds form m events tells seen stopped image taken new opens now =
    let none : taken ≡ [] = subst (λ (x : Option (List ℕ)). AreTaken x taken) new.unsaid now.replies in
    record {
      answered = [];
      unanswered = events;
      split = refl;
      finds = inl (record { replies = none; found = new_opens_to tells seen stopped m new opens image now.found });
    }

finds_by : (form : Form) (m : Machine) (events : List Event) (tells : Bool) (seen : Seen) (stopped : Stopped) (image : Image) (taken : List ℕ) → IsNew tells seen stopped
    → OpensTo seen.reads m → ((i : Image) (w : List ℕ) → stopped.since stopped.moment i w → Now stopped.images seen.said i w)
    → stopped.since 0 image taken ⊎ StopFinds form bounds m events seen.said image taken → StopFinds form bounds m events (Some []) image taken
finds_by form m events tells seen stopped image taken new opens only (inl before) =
    first_finds form m events tells seen stopped image taken new opens (only image taken (subst (λ (n : ℕ). stopped.since n image taken) (sym new.first) before))
finds_by form m events tells seen stopped image taken new opens only (inr finds) = subst (λ (x : Option (List ℕ)). StopFinds form bounds m events x image taken) new.unsaid finds

replays_safely : {S D : Type 0} (o : Outside S D) (form : Form) (input : List ℕ) (source source_now : S) (desk desk_now : D) (status : Status)
    → o.left source ≡ Some input → IsNew o.tells (o.seen desk) (o.stopped desk)
    → ((i : Image) (w : List ℕ) → (o.stopped desk).since (o.stopped desk).moment i w → Now (o.stopped desk).images (o.seen desk).said i w) → is_cut status ≡ false
    → (r : Replays (taking_of form program_bounds.input) bounds o source source_now desk desk_now status) → IsSafe form r.machine input (o.stopped desk_now)
replays_safely o form input source source_now desk desk_now status told new only on r =
    let s = r.serves in
    let same = serves_alike form r.machine input (o.left source) (o.left source_now) (o.seen desk) (o.seen desk_now) status told on s in
    let opens = r.opens new.told in
    let elapses = r.stops new.told (new_opens_to o.tells (o.seen desk) (o.stopped desk) r.machine new opens) in
    let finds : (image : Image) (taken : List ℕ) → (o.stopped desk_now).since 0 image taken → StopFinds form bounds r.machine (events_in form (used input)) (Some []) image taken =
    λ image taken since. subst (λ (es : List Event). StopFinds form bounds r.machine es (Some []) image taken) same.events
    (finds_by form r.machine (events_in form (used s.taken)) o.tells (o.seen desk) (o.stopped desk) image taken new opens only (elapses.nothing_else 0 image taken (omega arith) since)) in
    record {
      finds = finds;
      holds = λ image taken count since few front. stop_holds form bounds r.machine (used input) [] taken image count (finds image taken since) few front;
    }

-- Where the folder has no room to be migrated, a stop finds no frame answered either.
start_finds : (form : Form) (m : Machine) (events : List Event) (image : Image) (taken : List ℕ) → taken ≡ [] → OpensToState image m.state → StopFinds form bounds m events (Some []) image taken
start_finds form m events image taken none opens = record { answered = []; unanswered = events; split = refl; finds = inl (record { replies = none; found = opens }) }

shut_opens : (tells : Bool) (seen : Seen) (stopped : Stopped) (m : Machine) (status : Status) (image : Image) → IsNew tells seen stopped → OpensTo seen.reads m → status ≡ FolderFull
    → After (StandsAsBefore kept_format) stopped.images image ⊎ LeftByMigration (Some bounds) status seen.reads image → OpensToState image m.state
shut_opens tells seen stopped m status image new opens full (inl after) =
    still_opens kept_format after.from image m.state after.by (new_opens_to tells seen stopped m new opens after.from after.was)
shut_opens tells seen stopped m status image new opens full (inr (s, (is, migrates), found)) = let both : (status ≡ FolderFull) × (status ≡ DiskFault) = (full, is) in absurd cc

shut_finds : (form : Form) (m : Machine) (events : List Event) (tells : Bool) (seen : Seen) (stopped : Stopped) (status : Status) (image : Image) (taken : List ℕ) → IsNew tells seen stopped
    → OpensTo seen.reads m → status ≡ FolderFull → ((i : Image) (w : List ℕ) → stopped.since stopped.moment i w → Now stopped.images seen.said i w)
    → stopped.since 0 image taken ⊎ Now (λ i. After (StandsAsBefore kept_format) stopped.images i ⊎ LeftByMigration (Some bounds) status seen.reads i) seen.said image taken
    → StopFinds form bounds m events (Some []) image taken
shut_finds form m events tells seen stopped status image taken new opens full only (inl before) =
    first_finds form m events tells seen stopped image taken new opens (only image taken (subst (λ (n : ℕ). stopped.since n image taken) (sym new.first) before))
shut_finds form m events tells seen stopped status image taken new opens full only (inr now) =
    start_finds form m events image taken (subst (λ (x : Option (List ℕ)). AreTaken x taken) new.unsaid now.replies)
    (shut_opens tells seen stopped m status image new opens full now.found)

shut_safely : {S D : Type 0} (o : Outside S D) (form : Form) (input : List ℕ) (source source_now : S) (desk desk_now : D) (status : Status) (m : Machine) → IsNew o.tells (o.seen desk) (o.stopped desk)
    → ((i : Image) (w : List ℕ) → (o.stopped desk).since (o.stopped desk).moment i w → Now (o.stopped desk).images (o.seen desk).said i w) → OpensTo (o.seen desk).reads m
    → Refuses bounds o.tells o.seen o.stopped source source_now desk desk_now status → StaysDamaged (o.seen desk) (o.seen desk_now) status ⊎ StaysFull (o.seen desk) (o.seen desk_now) status
    → IsSafe form m input (o.stopped desk_now)
shut_safely o form input source source_now desk desk_now status m new only opens refuses (inl d) =
    absurd (stateless_opens (o.seen desk).reads d.part d.at m.state d.none (machine_opens (o.seen desk).reads m opens))
shut_safely o form input source source_now desk desk_now status m new only opens refuses (inr f) =
    let elapses = refuses.unopened.stops new.told in
    let finds : (image : Image) (taken : List ℕ) → (o.stopped desk_now).since 0 image taken → StopFinds form bounds m (events_in form (used input)) (Some []) image taken =
    λ image taken since. shut_finds form m (events_in form (used input)) o.tells (o.seen desk) (o.stopped desk) status image taken new opens f.ends only
    (elapses.nothing_else 0 image taken (omega arith) since) in
    record {
      finds = finds;
      holds = λ image taken count since few front. stop_holds form bounds m (used input) [] taken image count (finds image taken since) few front;
    }

pub safe : {S D : Type 0} (o : Outside S D) (form : Form) (input : List ℕ) (source source_now : S) (desk desk_now : D) (status : Status) (m : Machine)
    → o.left source ≡ Some input → IsNew o.tells (o.seen desk) (o.stopped desk)
    → ((i : Image) (w : List ℕ) → (o.stopped desk).since (o.stopped desk).moment i w → Now (o.stopped desk).images (o.seen desk).said i w) → is_cut status ≡ false
    → OpensTo (o.seen desk).reads m → Ran o form source source_now desk desk_now status → IsSafe form m input (o.stopped desk_now)
safe o form input source source_now desk desk_now status m told new only on opens (inl refuses) =
    shut_safely o form input source source_now desk desk_now status m new only opens refuses (closed o source source_now desk desk_now status new on refuses)
safe o form input source source_now desk desk_now status m told new only on opens (inr r) =
    subst (λ (x : Machine). IsSafe form x input (o.stopped desk_now)) (one_machine (o.seen desk).reads r.machine m (r.opens new.told) opens)
    (replays_safely o form input source source_now desk desk_now status told new only on r)

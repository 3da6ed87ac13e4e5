-- What the shipping of a folder comes to.
use Rattle.std.specs.Prelude.{IsTrue, Bool}
use Rattle.std.proofs.Common.{◌≡◌, ◌⊎◌, inl, inr, ℕ, List, [], ◌++◌, None, Some, refl, sym, ap, ◌∙◌, subst, append_assoc, arith}
use Rattle.std.proofs.lemmas.Grind.{flat_map-append}
use Rattle.std.specs.declared.option.Option.{Option}
use Rattle.ziti_outside.specs.Causes.{HasCause}
use Rattle.ziti_outside.specs.Told.{Took, TookFront}
use Rattle.ziti_outside.specs.Untouched.{OnlyNotes}
use Rattle.ziti_outside.specs.Views.{Seen, Stopped}
use Rattle.ziti_outside.proofs.MomentLaws.{Elapses-weaker}
use Rattle.channel_frame.specs.declared.frames.Frame.{Frame}
use Rattle.channel_frame.specs.FrameSpelling.{spelling}
use Rattle.ctrl_model.specs.declared.formats.Format.{Format}
use Rattle.slot_files.specs.FolderImage.{Stands}
use Rattle.row_store.proofs.OneStates.{stateless_opens}
use Rattle.ship_core.specs.declared.faults.ShipFault.{ShipFault}
use Rattle.ship_core.specs.declared.faults.ShipFault.TheVariants as ship
use Rattle.ship_core.specs.Faults.{disk_failure, write_failure, Judges, IsUnfound}
use Rattle.ship_frames.specs.Pieces.{written}
use Rattle.ship_core.specs.SaidFrames.{OnlyShips, SaysFrames, ShipsJudged}
use Rattle.ship_core.specs.Shipping.{shipped}
use Rattle.ctrl_keep.specs.declared.faults.KeepFault.TheVariants as keep
use Rattle.run_notes.specs.declared.status.Status.{Status}
use Rattle.run_notes.specs.declared.status.Status.TheVariants.{Done, WriteFault, DiskFault, Damaged, NoMemory}
use Rattle.run_notes.specs.NotedLines.{FindsNoMore, RisesOnce}
use Rattle.run_notes.proofs.NoteLaws.{notes_from, notes_none}
use Rattle.ctrl_serve.specs.FolderRuns.{TellsUnshipped}
use Rattle.ctrl_serve.specs.Headline.{IsLeftAlone, IsUnopened}
use Rattle.ctrl_serve.specs.Runs.{IsDiskCaused, IsWriteCaused}
use Rattle.ctrl_serve.specs.ShipWords.{NotesShipped, SaysShipped, Ships}
use Rattle.ctrl_serve.proofs.ClosedFolders.{peeks_none, unopened}
use Rattle.serve_loop.proofs.IntakeLaws.{disk_calm, disk_fault, write_calm}

-- The status with which a shipping ends.
abbrev pub status_of : Option ShipFault → Status
status_of None = Done
status_of (Some ship.Disk) = DiskFault
status_of (Some ship.Write) = WriteFault
status_of (Some (ship.Damaged part at)) = Damaged
status_of (Some ship.NoMemory) = NoMemory

-- ---- what was said

-- A front of the bytes of the first frames is one of the bytes of all.
front_of_all : (before now : Option (List ℕ)) (frames more all : List Frame) → frames ++ more ≡ all → TookFront before now (written frames) → TookFront before now (written all)
front_of_all before now frames more all e took = (
  took.0,
  (
    took.1.0 ++ written more,
    sym (append_assoc took.0 took.1.0 (written more)) ∙ ap (λ (l : List ℕ). l ++ written more) took.1.1 ∙ sym (flat_map-append spelling frames more) ∙ ap written e,
  ),
  took.2,
)

says_shipped : {D : Type 0} {seen : D → Seen} {stopped : D → Stopped} {old new : D} (fault : Option ShipFault) (all : List Frame) → SaysFrames seen stopped old new fault all
    → SaysShipped (status_of fault) (seen old).said (seen new).said all
says_shipped {seen = seen} {old = old} {new = new} None all s = subst (λ (l : List Frame). Took (seen old).said (seen new).said (written l)) s.first s.said
says_shipped (Some ship.Disk) all s = (s.frames, s.first.0, s.first.1, s.said)
says_shipped {seen = seen} {old = old} {new = new} (Some ship.Write) all s = front_of_all (seen old).said (seen new).said s.frames s.first.0 all s.first.1 s.said
says_shipped (Some (ship.Damaged part at)) all s = (s.frames, s.first.0, s.first.1, s.said)
says_shipped (Some ship.NoMemory) all s = (s.frames, s.first.0, s.first.1, s.said)

-- Notes behind it say nothing more.
said_behind : {D : Type 0} {seen : D → Seen} {stopped : D → Stopped} {old mid : D} (fault : Option ShipFault) (all : List Frame) (status : Status) (now : Option (List ℕ)) → status ≡ status_of fault
    → now ≡ (seen mid).said → SaysFrames seen stopped old mid fault all → SaysShipped status (seen old).said now all
said_behind {seen = seen} {old = old} fault all status now is quiet s =
    subst (λ (u : Status). SaysShipped u (seen old).said now all) (sym is)
    (subst (λ (n : Option (List ℕ)). SaysShipped (status_of fault) (seen old).said n all) (sym quiet) (says_shipped fault all s))

-- ---- what it comes to

-- What is known of a shipping behind which notes were written.
pub record IsShippedBy {D : Type 0} (from : ℕ) (tells : Bool) (seen : D → Seen) (stopped : D → Stopped) (fault : Option ShipFault) (old new : D) : Type 0 where
  pub says : IsTrue tells → (format : Format) (batches : List (List ℕ)) → Stands format (seen old).reads batches → SaysFrames seen stopped old new fault (shipped from format batches)
  pub judges : IsTrue tells → Judges (seen old).reads fault
  pub opens : IsUnfound tells seen stopped old new fault ⊎ ShipsJudged tells seen stopped from old new fault
  pub alone : OnlyShips seen stopped old new

ships_by : {D : Type 0} {seen : D → Seen} {stopped : D → Stopped} {old mid new : D} (from : ℕ) (tells : Bool) (fault : Option ShipFault) (status : Status) → IsShippedBy from tells seen stopped fault old mid
    → status ≡ status_of fault → (seen new).said ≡ (seen mid).said → ShipsJudged tells seen stopped from old mid fault → NotesShipped status tells (seen old) (seen new)
    → Ships from tells (seen old) (seen new) status
ships_by {seen = seen} {new = new} from tells fault status by is quiet judged notes = record {
  state = judged.state;
  valid = judged.valid;
  opens = judged.opens;
  ships = λ told format batches stands. said_behind fault (shipped from format batches) status (seen new).said is quiet (by.says told format batches stands);
  frames = record {
    format = judged.format;
    has = judged.has;
    all = judged.all;
    shipped = judged.shipped;
    said = said_behind fault judged.all status (seen new).said is quiet judged.says;
  };
  notes = notes;
}

-- Where all was said the folder was judged first.
judged_done : {A : Type 0} → ⊥ ⊎ A → A
judged_done (inl none) = absurd none
judged_done (inr a) = a

-- And so it was where a say failed.
judged_said : {A C : Type 0} → (⊥ × A) ⊎ C → C
judged_said (inl none) = absurd none.0
judged_said (inr c) = c

-- All was shipped.
pub shipped_done : {D : Type 0} {seen : D → Seen} {stopped : D → Stopped} {old new : D} (from : ℕ) (tells : Bool) → IsShippedBy from tells seen stopped None old new
    → Ships from tells (seen old) (seen new) Done
shipped_done {seen = seen} {old = old} {new = new} from tells by =
    ships_by from tells None Done by refl refl (judged_done by.opens) (notes_from [] (seen old) (seen new) (seen new) by.alone.notes by.alone.failed_notes (notes_none (seen new)))

-- The notes of a status that is told.
noted_status : (tells : Bool) (before now : Seen) (is status : Status) → status ≡ is → NotesShipped is tells before now → NotesShipped status tells before now
noted_status tells before now is status same noted = subst (λ (u : Status). NotesShipped u tells before now) (sym same) noted

-- Not all was shipped, and why was noted.
pub unshipped : {D : Type 0} {seen : D → Seen} {stopped : D → Stopped} (from : ℕ) (tells : Bool) (fault : ShipFault) (old mid new : D) (status : Status)
    → IsShippedBy from tells seen stopped (Some fault) old mid → OnlyNotes seen stopped mid new → FindsNoMore stopped mid new → TellsUnshipped fault status (seen mid) (seen new)
    → IsUnopened None tells seen stopped old new status ⊎ Ships from tells (seen old) (seen new) status
unshipped {seen = seen} {stopped = stopped} from tells ship.Disk old mid new status by notes more told =
    elim by.opens as (λ _. IsUnopened None tells seen stopped old new status ⊎ Ships from tells (seen old) (seen new) status) [
      | inl closed ↦ inl (unopened None tells keep.Disk old mid new status (peeks_none tells keep.Disk old mid closed.1 tt) notes more told)
      | inr judged ↦ inr (ships_by from tells (Some ship.Disk) status by told.0 notes.replies judged
          (noted_status tells (seen old) (seen new) DiskFault status told.0 (notes_from _ (seen old) (seen mid) (seen new) by.alone.notes by.alone.failed_notes told.1)))
    ]
unshipped {seen = seen} from tells ship.Write old mid new status by notes more told =
    inr (ships_by from tells (Some ship.Write) status by told.0 notes.replies (judged_said by.opens)
    (noted_status tells (seen old) (seen new) WriteFault status told.0 (notes_from _ (seen old) (seen mid) (seen new) by.alone.notes by.alone.failed_notes told.1)))
unshipped {seen = seen} {stopped = stopped} from tells (ship.Damaged part at) old mid new status by notes more told =
    elim by.opens as (λ _. IsUnopened None tells seen stopped old new status ⊎ Ships from tells (seen old) (seen new) status) [
      | inl closed ↦ inl (unopened None tells (keep.Damaged part at) old mid new status (peeks_none tells (keep.Damaged part at) old mid closed.1 by.judges) notes more told)
      | inr judged ↦ inr (ships_by from tells (Some (ship.Damaged part at)) status by told.0 notes.replies judged
          (noted_status tells (seen old) (seen new) Damaged status told.0 (
            part,
            at,
            λ yes. stateless_opens (seen old).reads part at judged.state (by.judges yes) (judged.opens yes),
            notes_from _ (seen old) (seen mid) (seen new) by.alone.notes by.alone.failed_notes told.1,
          )))
    ]
unshipped {seen = seen} {stopped = stopped} from tells ship.NoMemory old mid new status by notes more told =
    elim by.opens as (λ _. IsUnopened None tells seen stopped old new status ⊎ Ships from tells (seen old) (seen new) status) [
      | inl closed ↦ inl (unopened None tells keep.NoMemory old mid new status (peeks_none tells keep.NoMemory old mid closed.1 tt) notes more told)
      | inr judged ↦ inr (ships_by from tells (Some ship.NoMemory) status by told.0 notes.replies judged
          (noted_status tells (seen old) (seen new) NoMemory status told.0 (notes_from _ (seen old) (seen mid) (seen new) by.alone.notes by.alone.failed_notes told.1)))
    ]

-- ---- what it leaves alone, and its causes

-- The folder was left alone.
pub shipped_alone : {D : Type 0} {seen : D → Seen} {stopped : D → Stopped} {old new : D} (fault : Option ShipFault) → (all : List Frame) × SaysFrames seen stopped old new fault all
    → OnlyShips seen stopped old new → IsLeftAlone seen stopped old new
shipped_alone {stopped = stopped} {old = old} fault frames alone = record {
  parts = alone.parts;
  found = alone.found;
  stops = Elapses-weaker (λ image taken. (stopped old).images image) frames.1.stops (λ i w p. p.found);
}

-- Where all was shipped no call failed.
pub shipped_says : (before now : ℕ) → HasCause before now (write_failure None) → IsWriteCaused before now Done
shipped_says before now cause = write_calm before now Done cause.calm (λ e. cc)

pub shipped_calls : (before now : ℕ) → HasCause before now (disk_failure None) → IsDiskCaused before now Done
shipped_calls before now cause = disk_calm before now Done cause.calm (λ e. cc)

pub shipped_notes : (before now : ℕ) → now ≡ before → RisesOnce before now
shipped_notes before now calm = record { later = omega (arith, calm); once = omega (arith, calm) }

-- A failed say is told.
written_by : (before mid now : ℕ) → HasCause before mid (write_failure (Some ship.Write)) → now ≡ mid → IsWriteCaused before now WriteFault
written_by before mid now cause still = subst (λ (n : ℕ). IsWriteCaused before n WriteFault) (sym still) (record {
  counted = record { later = cause.later; once = cause.once };
  calm = λ other. absurd (other refl);
  rose = λ _. cause.failed;
})

pub write_told : (before mid now : ℕ) (fault : ShipFault) (status : Status) (c d : Seen) → HasCause before mid (write_failure (Some fault)) → now ≡ mid
    → TellsUnshipped fault status c d → IsWriteCaused before now status
write_told before mid now ship.Disk status c d cause still told = write_calm before now status (still ∙ cause.calm) (λ e. let is = told.0 in cc)
write_told before mid now ship.Write status c d cause still told = subst (λ (u : Status). IsWriteCaused before now u) (sym told.0) (written_by before mid now cause still)
write_told before mid now (ship.Damaged part at) status c d cause still told = write_calm before now status (still ∙ cause.calm) (λ e. let is = told.0 in cc)
write_told before mid now ship.NoMemory status c d cause still told = write_calm before now status (still ∙ cause.calm) (λ e. let is = told.0 in cc)

-- And a failed call on the disk.
pub disk_told : (before mid now : ℕ) (fault : ShipFault) (status : Status) (c d : Seen) → HasCause before mid (disk_failure (Some fault)) → now ≡ mid
    → TellsUnshipped fault status c d → IsDiskCaused before now status
disk_told before mid now ship.Disk status c d cause still told =
    subst (λ (u : Status). IsDiskCaused before now u) (sym told.0) (disk_fault before mid now ship.Disk (disk_failure (Some ship.Disk)) refl cause still)
disk_told before mid now ship.Write status c d cause still told = disk_calm before now status (still ∙ cause.calm) (λ e. let is = told.0 in cc)
disk_told before mid now (ship.Damaged part at) status c d cause still told = disk_calm before now status (still ∙ cause.calm) (λ e. let is = told.0 in cc)
disk_told before mid now ship.NoMemory status c d cause still told = disk_calm before now status (still ∙ cause.calm) (λ e. let is = told.0 in cc)

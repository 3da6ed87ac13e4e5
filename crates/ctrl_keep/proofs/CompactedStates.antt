-- Compact in a folder that keeps a state: what the machine makes of it, and what keeps the state after it.
use Rattle.std.specs.Prelude.{⊤, OnOk, OnErr, IfOk, IfErr, IsErrOf}
use Rattle.std.proofs.Common.{◌≡◌, ◌⊎◌, inl, ℕ, Bool, true, false, Ok, Err, refl, true≢false, sym, ap, ◌∙◌, subst}
use Rattle.std.specs.declared.result.Result.{Result}
use Rattle.ziti_outside.specs.Images.{Image}
use Rattle.ziti_outside.specs.Causes.{HasCause}
use Rattle.ctrl_model.specs.declared.commands.Command.{Command}
use Rattle.ctrl_model.specs.declared.kinds.Who.{Who}
use Rattle.ctrl_model.specs.declared.refusals.Refusal.TheVariants.{JournalFull, MarkFull}
use Rattle.ctrl_model.specs.declared.replies.Reply.{Reply}
use Rattle.ctrl_model.specs.declared.replies.Reply.TheVariants.{Done, Refused}
use Rattle.ctrl_model.specs.declared.formats.Format.{Format}
use Rattle.ctrl_model.specs.State.{State}
use Rattle.ctrl_model.specs.Permitted.{is_permitted}
use Rattle.row_store.specs.declared.faults.StoreFault.{StoreFault}
use Rattle.row_store.specs.declared.faults.StoreFault.TheVariants as store_fault
use Rattle.row_store.specs.Faults.{disk_failure as store_failure}
use Rattle.row_store.specs.OpenedRows.{OpensTo}
use Rattle.row_store.specs.StoredRows.{Stored}
use Rattle.row_store.specs.RewrittenStores.{compacted_size, rewritten_of, IsRewritten, MayRewrite, RewriteFails}
use Rattle.ctrl_core.specs.KeptState.{Cored}
use Rattle.ctrl_keep.specs.declared.faults.KeepFault.{KeepFault}
use Rattle.ctrl_keep.specs.declared.faults.KeepFault.TheVariants.{NoMemory}
use Rattle.ctrl_core.specs.KeptFormat.{kept_format}
use Rattle.row_store.specs.OpenedStates.{OpensToState}
use Rattle.ctrl_keep.specs.KeptMachine.{Machine, is_compact, compacted_at, step}
use Rattle.ctrl_keep.specs.KeptController.{Controlled, place_of, machine_with, machine_of, Keeps}
use Rattle.ctrl_keep.specs.CompactionReplies.{compaction_reply}
use Rattle.ctrl_keep.specs.Faults.{disk_failure, AdvanceFails}
use Rattle.ctrl_keep.proofs.KeptStates.{opens_kept_state}
use Rattle.ctrl_keep.proofs.MachineSteps.{step_compacts, compacted_done, compacted_full, compacted_mark}

-- A flag is not both.
pub never_spent : {A : Type 0} (b : Bool) → b ≡ false → b ≡ true → A
never_spent b e f = absurd (true≢false (sym f ∙ e))

-- ---- the store

-- The store after it was compacted.
abbrev pub compacted_of : Stored → Stored
compacted_of stored = rewritten_of stored.format stored.rows stored

-- It may be compacted.
abbrev pub MayCompact : Stored → Type 0
MayCompact stored = MayRewrite (compacted_size stored.rows) stored

-- Why it was not.
abbrev pub CompactFails : {D : Type 0} → (old new : Stored) (desk later : D) → StoreFault → Type 0
CompactFails old new desk later fault = RewriteFails (compacted_size old.rows) old new desk later fault

-- What came of compacting a store that keeps a state: it was compacted, or why not.
pub record CameTo {D : Type 0} (core : Cored) (old new : Stored) (desk later : D) (r : Result ⊤ StoreFault) : Type 0 where
  pub keeps : Keeps core old
  pub done : OnOk r (MayCompact old × (new ≡ compacted_of old))
  pub fault : IfErr r (λ fault. CompactFails old new desk later fault)

pub came_of : {D : Type 0} {core : Cored} {old new : Stored} {desk later : D} {r : Result ⊤ StoreFault} → Keeps core old
    → OnOk r (MayCompact old × (new ≡ compacted_of old)) → IfErr r (λ fault. CompactFails old new desk later fault) → CameTo core old new desk later r
came_of keeps done fault = record { keeps = keeps; done = done; fault = fault }

-- A store that was compacted keeps the state.
keeps_compacted : (core : Cored) (old new : Stored) → Keeps core old → new ≡ compacted_of old → Keeps core new
keeps_compacted core old new k e = subst (Keeps core) (sym e) (record { live = k.live; valid = k.valid; opened = k.opened; unspent = k.unspent; format = k.format; rows = k.rows })

-- What the machine makes of it.
pub came_step : {D : Type 0} (core : Cored) (old new : Stored) (desk later : D) (r : Result ⊤ StoreFault) → CameTo core old new desk later r
    → IfOk (compaction_reply r) (λ reply. (reply, machine_with core.state new) ≡ compacted_at old.bounds core.state (place_of old))
came_step core old new desk later (Ok x) c =
    by c.done
  where
    by : MayCompact old × (new ≡ compacted_of old) → (Done, machine_with core.state new) ≡ compacted_at old.bounds core.state (place_of old)
    by ((unspent, (fits, room)), e) = ap (λ (l : Stored). (Done, machine_with core.state l)) e ∙ compacted_done core.state old c.keeps.rows fits room
came_step core old new desk later (Err store_fault.Disk) c = tt
came_step core old new desk later (Err store_fault.Full) c = by c.fault
  where
    by : CompactFails old new desk later store_fault.Full → (Refused JournalFull, machine_with core.state new) ≡ compacted_at old.bounds core.state (place_of old)
    by (unspent, full, (e, quiet)) = ap (λ (l : Stored). (Refused JournalFull, machine_with core.state l)) e ∙ compacted_full core.state old c.keeps.rows full
came_step core old new desk later (Err (store_fault.Damaged part at)) c = tt
came_step core old new desk later (Err store_fault.MarkFull) c = by c.fault
  where
    by : CompactFails old new desk later store_fault.MarkFull → (Refused MarkFull, machine_with core.state new) ≡ compacted_at old.bounds core.state (place_of old)
    by (unspent, fits, full, (e, quiet)) = ap (λ (l : Stored). (Refused MarkFull, machine_with core.state l)) e ∙ compacted_mark core.state old c.keeps.rows fits full
came_step core old new desk later (Err store_fault.Spent) c = tt
came_step core old new desk later (Err store_fault.NoMemory) c = tt

-- Where the store has the kept format, its folder was written in it.
pub folder_kept : (A : Type 0) (r : Result ⊤ StoreFault) (stored : Stored) (before now : Image) → stored.format ≡ kept_format → OnOk r (A → IsRewritten stored.format stored.rows stored before now)
    → OnOk r (A → IsRewritten kept_format stored.rows stored before now)
folder_kept A r stored before now e folder = subst (λ (f : Format). OnOk r (A → IsRewritten f stored.rows stored before now)) e folder

-- It keeps the state where it is not spent.
pub came_keeps : {D : Type 0} (core : Cored) (old new : Stored) (desk later : D) (r : Result ⊤ StoreFault) → CameTo core old new desk later r → new.spent ≡ false → Keeps core new
came_keeps core old new desk later (Ok x) c fresh = keeps_compacted core old new c.keeps c.done.1
came_keeps core old new desk later (Err store_fault.Disk) c fresh = never_spent new.spent fresh (ap (λ (s : Stored). s.spent) c.fault.1)
came_keeps core old new desk later (Err store_fault.Full) c fresh = subst (Keeps core) (sym c.fault.2.0) c.keeps
came_keeps core old new desk later (Err (store_fault.Damaged part at)) c fresh = absurd c.fault
came_keeps core old new desk later (Err store_fault.MarkFull) c fresh = subst (Keeps core) (sym c.fault.3.0) c.keeps
came_keeps core old new desk later (Err store_fault.Spent) c fresh = never_spent old.spent c.keeps.unspent c.fault.0
came_keeps core old new desk later (Err store_fault.NoMemory) c fresh = subst (Keeps core) (sym c.fault.1.0) c.keeps

-- It is not spent where it is answered, and stays within its bounds.
pub came_unspent : {D : Type 0} (core : Cored) (old new : Stored) (desk later : D) (r : Result ⊤ StoreFault) → CameTo core old new desk later r
    → OnOk (compaction_reply r) ((new.spent ≡ false) × (new.bounds ≡ old.bounds))
came_unspent core old new desk later (Ok x) c = (ap (λ (s : Stored). s.spent) c.done.1 ∙ c.keeps.unspent, ap (λ (s : Stored). s.bounds) c.done.1)
came_unspent core old new desk later (Err store_fault.Disk) c = tt
came_unspent core old new desk later (Err store_fault.Full) c = (ap (λ (s : Stored). s.spent) c.fault.2.0 ∙ c.keeps.unspent, ap (λ (s : Stored). s.bounds) c.fault.2.0)
came_unspent core old new desk later (Err (store_fault.Damaged part at)) c = tt
came_unspent core old new desk later (Err store_fault.MarkFull) c = (ap (λ (s : Stored). s.spent) c.fault.3.0 ∙ c.keeps.unspent, ap (λ (s : Stored). s.bounds) c.fault.3.0)
came_unspent core old new desk later (Err store_fault.Spent) c = tt
came_unspent core old new desk later (Err store_fault.NoMemory) c = tt

-- Why it was not answered.
pub came_fault : {D : Type 0} (core : Cored) (old new : Stored) (desk later : D) (r : Result ⊤ StoreFault) → CameTo core old new desk later r
    → IfErr (compaction_reply r) (λ fault. AdvanceFails core core old new new.spent desk later fault)
came_fault core old new desk later (Ok x) c = tt
came_fault core old new desk later (Err store_fault.Disk) c = (ap (λ (s : Stored). s.spent) c.fault.1, refl)
came_fault core old new desk later (Err store_fault.Full) c = tt
came_fault core old new desk later (Err (store_fault.Damaged part at)) c = absurd c.fault
came_fault core old new desk later (Err store_fault.MarkFull) c = tt
came_fault core old new desk later (Err store_fault.Spent) c = never_spent old.spent c.keeps.unspent c.fault.0
came_fault core old new desk later (Err store_fault.NoMemory) c =
    inl (refl, c.fault.1.0, ap (λ (s : Stored). s.spent) c.fault.1.0 ∙ c.keeps.unspent, c.fault.1.1)

-- Where the store has room, the machine makes Done of it.
has_done : (core : Cored) (stored : Stored) → Keeps core stored → MayCompact stored → (compacted_at stored.bounds core.state (place_of stored)).0 ≡ Done
has_done core stored k (unspent, (fits, room)) = ap (λ (a : Reply × Machine). a.0) (sym (compacted_done core.state stored k.rows fits room))

-- It is not answered only where it is to be done.
pub came_fits : {D : Type 0} (core : Cored) (old new : Stored) (desk later : D) (r : Result ⊤ StoreFault) → CameTo core old new desk later r
    → OnErr (compaction_reply r) ((compacted_at old.bounds core.state (place_of old)).0 ≡ Done)
came_fits core old new desk later (Ok x) c = tt
came_fits core old new desk later (Err store_fault.Disk) c = has_done core old c.keeps c.fault.0
came_fits core old new desk later (Err store_fault.Full) c = tt
came_fits core old new desk later (Err (store_fault.Damaged part at)) c = absurd c.fault
came_fits core old new desk later (Err store_fault.MarkFull) c = tt
came_fits core old new desk later (Err store_fault.Spent) c = never_spent old.spent c.keeps.unspent c.fault.0
came_fits core old new desk later (Err store_fault.NoMemory) c = has_done core old c.keeps c.fault.0

-- Want of memory leaves it unspent.
pub came_memory : {D : Type 0} (core : Cored) (old new : Stored) (desk later : D) (r : Result ⊤ StoreFault) → CameTo core old new desk later r
    → IsErrOf (compaction_reply r) NoMemory → new.spent ≡ false
came_memory core old new desk later (Ok x) c none = cc
came_memory core old new desk later (Err store_fault.Disk) c none = cc
came_memory core old new desk later (Err store_fault.Full) c none = cc
came_memory core old new desk later (Err (store_fault.Damaged part at)) c none = absurd c.fault
came_memory core old new desk later (Err store_fault.MarkFull) c none = cc
came_memory core old new desk later (Err store_fault.Spent) c none = never_spent old.spent c.keeps.unspent c.fault.0
came_memory core old new desk later (Err store_fault.NoMemory) c none = ap (λ (s : Stored). s.spent) c.fault.1.0 ∙ c.keeps.unspent

-- What is so where it was compacted is so where the reply is Done.
pub came_done : (A : Type 0) (r : Result ⊤ StoreFault) → OnOk r A → IfOk (compaction_reply r) (λ reply. reply ≡ Done → A)
came_done A (Ok x) a = λ _. a
came_done A (Err store_fault.Disk) a = tt
came_done A (Err store_fault.Full) a = λ e. cc
came_done A (Err (store_fault.Damaged part at)) a = tt
came_done A (Err store_fault.MarkFull) a = λ e. cc
came_done A (Err store_fault.Spent) a = tt
came_done A (Err store_fault.NoMemory) a = tt

-- A failed call on the disk is told as one, and nothing else is.
pub came_cause : (before now : ℕ) (r : Result ⊤ StoreFault) → HasCause before now (store_failure r) → HasCause before now (disk_failure (compaction_reply r))
came_cause before now (Ok x) h = record { later = h.later; once = h.once; calm = h.calm; failed = tt }
came_cause before now (Err store_fault.Disk) h = record { later = h.later; once = h.once; calm = tt; failed = h.failed }
came_cause before now (Err store_fault.Full) h = record { later = h.later; once = h.once; calm = h.calm; failed = tt }
came_cause before now (Err (store_fault.Damaged part at)) h = record { later = h.later; once = h.once; calm = h.calm; failed = tt }
came_cause before now (Err store_fault.MarkFull) h = record { later = h.later; once = h.once; calm = h.calm; failed = tt }
came_cause before now (Err store_fault.Spent) h = record { later = h.later; once = h.once; calm = h.calm; failed = tt }
came_cause before now (Err store_fault.NoMemory) h = record { later = h.later; once = h.once; calm = h.calm; failed = tt }

-- What opens to the rows opens to the state.
pub opens_kept : (core : Cored) (stored : Stored) → Keeps core stored → (image : Image) → OpensTo stored.format image stored.rows → OpensToState image core.state
opens_kept core stored k image p = opens_kept_state stored.format image core.state stored.rows k.format k.valid k.rows p

-- ---- the whole controller

pub compact_is : (who : Who) (c : Command) (old : Controlled) (core : Cored) (stored : Stored) (spent : Bool) → record { state = core.state; stored = stored; spent = spent } ≡ old
    → is_permitted who c ≡ true → is_compact c ≡ true → step old.stored.bounds who c (machine_of old) ≡ compacted_at stored.bounds core.state (place_of stored)
compact_is who c old core stored spent view may is =
    subst (λ (k : Controlled). step k.stored.bounds who c (machine_of k) ≡ compacted_at stored.bounds core.state (place_of stored)) view
    (step_compacts stored.bounds who c core.state stored may is)

-- Whatever a stop leaves opens to the state before.
pub still_before : (image : Image) (s t : State) (a : Reply × Machine) → s ≡ t → OpensToState image s → OpensToState image t ⊎ OpensToState image a.1.state
still_before image s t a e p = inl (subst (OpensToState image) e p)

-- The folder of a store that was compacted is that of the whole controller.
pub folder_of_all : (r : Result Reply KeepFault) (c : Command) (old : Controlled) (core : Cored) (stored : Stored) (spent : Bool) (tells : Type 0) (reads later : Image)
    → record { state = core.state; stored = stored; spent = spent } ≡ old → IfOk r (λ reply. reply ≡ Done → tells → IsRewritten kept_format stored.rows stored reads later)
    → IfOk r (λ reply. is_compact c ≡ true → reply ≡ Done → tells → IsRewritten kept_format old.stored.rows old.stored reads later)
folder_of_all (Ok x) c old core stored spent tells reads later view folder = λ is done told. subst (λ (k : Controlled). IsRewritten kept_format k.stored.rows k.stored reads later) view (folder done told)
folder_of_all (Err x) c old core stored spent tells reads later view folder = tt

-- It is not answered only where it is to be done, in the whole controller too.
pub fits_all : (r : Result Reply KeepFault) (who : Who) (c : Command) (old : Controlled) (core : Cored) (stored : Stored) (spent : Bool) → record { state = core.state; stored = stored; spent = spent } ≡ old
    → is_permitted who c ≡ true → is_compact c ≡ true → OnErr r ((compacted_at stored.bounds core.state (place_of stored)).0 ≡ Done)
    → OnErr r (old.spent ≡ false → is_compact c ≡ true → (step old.stored.bounds who c (machine_of old)).0 ≡ Done)
fits_all (Ok x) who c old core stored spent view may is fits = tt
fits_all (Err x) who c old core stored spent view may is fits = λ fresh same. ap (λ (a : Reply × Machine). a.0) (compact_is who c old core stored spent view may is) ∙ fits

-- Of another command nothing is said of that.
pub fits_none : {T : Type 0} (r : Result T KeepFault) (c : Command) (A B : Type 0) → is_compact c ≡ false → OnErr r (A → is_compact c ≡ true → B)
fits_none (Ok x) c A B other = tt
fits_none (Err x) c A B other = λ a is. absurd (true≢false (sym is ∙ other))

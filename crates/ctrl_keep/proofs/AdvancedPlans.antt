-- A plan that is kept and carried out: what the folder opens to meanwhile, what is kept behind it, and why it was not done.
use Rattle.std.proofs.Common.{◌≡◌, ◌⊎◌, inl, inr, ℕ, suc, ◌≤◌, ◌<◌, ◌==◌, nat_lt, Bool, true, false, List, [], ◌∷◌, length, Err, refl, sym, ap, ◌∙◌, subst, true≢false, arith}
use Rattle.std.proofs.lemmas.Bool.Decides.{nat_tests}
use Rattle.std.specs.declared.result.Result.{Result}
use Rattle.ziti_outside.specs.Images.{Image}
use Rattle.ziti_outside.specs.Moments.{Leaves}
use Rattle.ziti_outside.proofs.MomentLaws.{Leaves-none, Leaves-weaker}
use Rattle.ziti_outside.specs.Views.{Seen, Stopped}
use Rattle.ctrl_model.specs.declared.commands.Command.{Command}
use Rattle.ctrl_model.specs.declared.kinds.Who.{Who}
use Rattle.ctrl_model.specs.declared.refusals.Refusal.TheVariants.{JournalFull}
use Rattle.ctrl_model.specs.declared.replies.Reply.{Reply}
use Rattle.ctrl_model.specs.declared.replies.Reply.TheVariants.{Refused}
use Rattle.ctrl_model.specs.State.{State}
use Rattle.ctrl_model.specs.Permitted.{is_permitted}
use Rattle.ctrl_model.specs.Controller.{carry, counted}
use Rattle.ctrl_model.specs.Limits.{last_serial}
use Rattle.ctrl_model.specs.ValidState.{ValidState}
use Rattle.model_laws.proofs.CountedLaws.{counted-valid}
use Rattle.row_codec.specs.declared.changes.Op.{Op}
use Rattle.row_codec.specs.Batches.{batch_between}
use Rattle.slot_reading.specs.BatchRows.{rows_after}
use Rattle.row_store.specs.OpenedRows.{OpensTo}
use Rattle.row_store.specs.StoredRows.{Stored, ReadsAs, size_with, with_ops}
use Rattle.row_store.proofs.CommitLaws.{reads_opens}
use Rattle.ctrl_core.specs.declared.plans.Planned.{Planned}
use Rattle.ctrl_core.specs.Changes.{CanLead, LeadsFrom, led}
use Rattle.ctrl_core.specs.KeptState.{Cored}
use Rattle.ctrl_keep.specs.declared.faults.KeepFault.{KeepFault}
use Rattle.ctrl_keep.specs.declared.faults.KeepFault.TheVariants.{Disk, Full, MarkFull, Damaged, Spent, NoMemory}
use Rattle.ctrl_core.specs.KeptFormat.{kept_format}
use Rattle.row_store.specs.OpenedStates.{OpensToState}
use Rattle.ctrl_keep.specs.KeptMachine.{Machine, is_compact, step}
use Rattle.ctrl_keep.specs.KeptController.{Controlled, machine_with, machine_of, made_of, Keeps, IsPlanned}
use Rattle.ctrl_keep.specs.Faults.{KeepFails, AdvanceFails, SubmitFails}
use Rattle.ctrl_keep.proofs.KeptStates.{rows_lead, opens_next, opens_either}
use Rattle.ctrl_keep.proofs.MachineSteps.{kept_with_room, kept_without_room, kept_at_last, kept_still, step_planned}

-- A plan that changes rows can be kept and carried out, below the last serial.
pub record CanAdvance (p : Planned) (core : Cored) (stored : Stored) : Type 0 where
  pub keeps : Keeps core stored
  pub leads : CanLead p core.state
  pub below : core.state.serial < last_serial
  pub changes : p.batch ≡ [] → ⊥

-- The state after it.
abbrev pub next_of : Planned → State → State
next_of p s = counted s (led p s)

pub valid_next : (p : Planned) (core : Cored) (stored : Stored) → CanAdvance p core stored → ValidState (next_of p core.state)
valid_next p core stored can = counted-valid core.state (led p core.state) can.keeps.valid can.leads.valid can.below

-- Whether its batch is empty, as the code asks.
some_items : (ops : List Op) → (length ops == 0) ≡ false → ops ≡ [] → ⊥
some_items ops e none = let both : (0 == 0) ≡ false = sym (ap (λ (l : List Op). length l == 0) none) ∙ e in cc

no_items : (ops : List Op) → (length ops == 0) ≡ true → ops ≡ []
no_items [] e = refl
no_items (op ∷ ops) e = absurd (some_length (length ops) e)
  where
    some_length : (n : ℕ) → (suc n == 0) ≡ true → ⊥
    some_length n e = grind (arith, nat_tests, e)

pub some_changes : (p : Planned) (ops : List Op) (empty : Bool) → ops ≡ p.batch → empty ≡ (length ops == 0) → empty ≡ false → p.batch ≡ [] → ⊥
some_changes p ops empty e f is none = some_items ops (sym f ∙ is) (e ∙ none)

-- A serial that is not the last is below it.
below_of : (n m : ℕ) → n ≤ m → (n ≡ m → ⊥) → n < m
below_of n m upto other = by (nat_lt n m) refl
  where
    same : nat_lt n m ≡ false → n ≡ m
    same e = grind (arith, nat_tests, upto, e)

    by : (b : Bool) → nat_lt n m ≡ b → n < m
    by true e = grind (arith, nat_tests, e)
    by false e = absurd (other (same e))

pub can_advance : (p : Planned) (core : Cored) (stored : Stored) (ops : List Op) (empty : Bool) (serial : ℕ) → IsPlanned p core stored → ops ≡ p.batch → empty ≡ (length ops == 0) → empty ≡ false
    → serial ≡ core.state.serial → (serial ≡ last_serial → ⊥) → CanAdvance p core stored
can_advance p core stored ops empty serial planned e f is same other = record {
  keeps = planned.keeps;
  leads = planned.leads;
  below = below_of core.state.serial last_serial planned.keeps.valid.counted (λ last. other (same ∙ last));
  changes = some_changes p ops empty e f is;
}

-- At the last serial the change is refused.
pub step_last : (p : Planned) (core : Cored) (stored : Stored) (serial : ℕ) → (p.batch ≡ [] → ⊥) → serial ≡ core.state.serial → serial ≡ last_serial
    → (Refused JournalFull, machine_with core.state stored) ≡ made_of p core.state stored
step_last p core stored serial some same last =
    sym (kept_at_last stored.bounds.slot p.reply core.state (next_of p core.state) p.batch stored some (ap (λ (n : ℕ). n == last_serial) (sym same ∙ last)))

-- A plan that changes no row is answered at once.
pub step_still : (p : Planned) (core : Cored) (stored : Stored) (ops : List Op) (empty : Bool) → ops ≡ p.batch → empty ≡ (length ops == 0) → empty ≡ true
    → (p.reply, machine_with core.state stored) ≡ made_of p core.state stored
step_still p core stored ops empty e f is =
    sym (kept_still stored.bounds.slot p.reply core.state (next_of p core.state) p.batch stored (sym e ∙ no_items ops (sym f ∙ is)))

-- ---- what the machine makes of a plan

pub made_next : (p : Planned) (core : Cored) (stored : Stored) → CanAdvance p core stored → size_with stored p.batch ≤ stored.bounds.slot
    → made_of p core.state stored ≡ (p.reply, machine_with (next_of p core.state) (with_ops stored p.batch))
made_next p core stored can room = kept_with_room stored.bounds.slot p.reply core.state (next_of p core.state) p.batch stored can.changes can.below room

pub made_full : (p : Planned) (core : Cored) (stored : Stored) → CanAdvance p core stored → stored.bounds.slot < size_with stored p.batch
    → made_of p core.state stored ≡ (Refused JournalFull, machine_with core.state stored)
made_full p core stored can full = kept_without_room stored.bounds.slot p.reply core.state (next_of p core.state) p.batch stored can.changes can.below full

-- A plan that was kept and carried out is answered with its reply.
pub step_next : (p : Planned) (core next : Cored) (stored later : Stored) (reply : Reply) → CanAdvance p core stored → size_with stored p.batch ≤ stored.bounds.slot → reply ≡ p.reply
    → next ≡ record { state = next_of p core.state; live = true } → later ≡ with_ops stored p.batch → (reply, machine_with next.state later) ≡ made_of p core.state stored
step_next p core next stored later reply can room said moved kept =
    ap (λ (r : Reply). (r, machine_with next.state later)) said ∙ ap (λ (n : Cored). (p.reply, machine_with n.state later)) moved
    ∙ ap (λ (l : Stored). (p.reply, machine_with (next_of p core.state) l)) kept ∙ sym (made_next p core stored can room)

-- ---- what the folder opens to

-- Whatever comes of the call, to the state before or to the one after.
pub advance_either : (p : Planned) (core : Cored) (stored : Stored) → CanAdvance p core stored → size_with stored p.batch ≤ stored.bounds.slot
    → (image : Image) → OpensTo stored.format image stored.rows ⊎ OpensTo stored.format image (rows_after stored.rows p.batch)
    → OpensToState image core.state ⊎ OpensToState image (made_of p core.state stored).1.state
advance_either p core stored can room image o =
    subst (λ (a : Reply × Machine). OpensToState image core.state ⊎ OpensToState image a.1.state) (sym (made_next p core stored can room))
    (opens_either stored.format image core.state (next_of p core.state) stored.rows p.batch can.keeps.format can.keeps.valid (valid_next p core stored can) can.keeps.rows can.leads.batch o)

-- Behind the append, to the one after.
pub advance_next : (p : Planned) (core : Cored) (stored : Stored) → CanAdvance p core stored → size_with stored p.batch ≤ stored.bounds.slot
    → (image : Image) → OpensTo stored.format image (rows_after stored.rows p.batch) → OpensToState image (made_of p core.state stored).1.state
advance_next p core stored can room image o =
    subst (λ (a : Reply × Machine). OpensToState image a.1.state) (sym (made_next p core stored can room))
    (opens_next stored.format image core.state (next_of p core.state) stored.rows p.batch can.keeps.format can.keeps.valid (valid_next p core stored can) can.keeps.rows can.leads.batch o)

-- ---- what is kept

-- The store with the batch keeps the next state.
pub keeps_next : (p : Planned) (core next : Cored) (stored later : Stored) → CanAdvance p core stored → next ≡ record { state = next_of p core.state; live = true }
    → later ≡ with_ops stored p.batch → Keeps next later
keeps_next p core next stored later can e f =
    subst (λ (n : Cored). Keeps n later) (sym e)
    (subst (λ (l : Stored). Keeps (record { state = next_of p core.state; live = true }) l) (sym f)
    (record {
      live = refl;
      valid = valid_next p core stored can;
      opened = can.keeps.opened;
      unspent = can.keeps.unspent;
      format = can.keeps.format;
      rows = rows_lead kept_format core.state (next_of p core.state) stored.rows p.batch can.keeps.valid (valid_next p core stored can) can.keeps.rows can.leads.batch;
    }))

-- ---- why it was not done

-- A fault of the disk and want of memory come only where there is room.
pub fails_with_room : {D : Type 0} (ops : List Op) (old new : Stored) (desk later : D) (fault : KeepFault) → KeepFails ops old new desk later fault → size_with old ops ≤ old.bounds.slot
fails_with_room ops old new desk later Disk f = f.0
fails_with_room ops old new desk later Full f = absurd f
fails_with_room ops old new desk later MarkFull f = absurd f
fails_with_room ops old new desk later (Damaged part at) f = absurd f
fails_with_room ops old new desk later Spent f = absurd f
fails_with_room ops old new desk later NoMemory f = f.0

-- Why a batch was not kept is why its plan was not carried out.
pub advance_fails : {D : Type 0} (ops : List Op) (core : Cored) (old new : Stored) (spent : Bool) (desk later : D) (fault : KeepFault) → Keeps core old → spent ≡ new.spent
    → KeepFails ops old new desk later fault → AdvanceFails core core old new spent desk later fault
advance_fails ops core old new spent desk later Disk k e f = (e ∙ ap (λ (s : Stored). s.spent) f.1, refl)
advance_fails ops core old new spent desk later Full k e f = absurd f
advance_fails ops core old new spent desk later MarkFull k e f = absurd f
advance_fails ops core old new spent desk later (Damaged part at) k e f = absurd f
advance_fails ops core old new spent desk later Spent k e f = absurd f
advance_fails ops core old new spent desk later NoMemory k e (room, inl (same, quiet)) = inl (refl, same, e ∙ ap (λ (s : Stored). s.spent) same ∙ k.unspent, quiet)
advance_fails ops core old new spent desk later NoMemory k e (room, inr done) = inr (e ∙ ap (λ (s : Stored). s.spent) done)

-- ---- the whole controller

-- What was planned in the state.
pub is_planned : (p : Planned) (core : Cored) (stored : Stored) (t : State) → Keeps core stored → LeadsFrom p core.state t → IsPlanned p core stored
is_planned p core stored t keeps leads = record { keeps = keeps; leads = leads.can }

-- The machine's step is what it makes of the plan.
pub step_is : (who : Who) (c : Command) (old : Controlled) (core : Cored) (stored : Stored) (spent : Bool) (p : Planned)
    → record { state = core.state; stored = stored; spent = spent } ≡ old → is_permitted who c ≡ true → is_compact c ≡ false → p.reply ≡ (carry c core.state).0
    → LeadsFrom p core.state (counted core.state (carry c core.state).1) → p.batch ≡ batch_between kept_format core.state (counted core.state (carry c core.state).1)
    → step old.stored.bounds who c (machine_of old) ≡ made_of p core.state stored
step_is who c old core stored spent p view may other reply leads batch =
    subst (λ (k : Controlled). step k.stored.bounds who c (machine_of k) ≡ made_of p core.state stored) view
    (step_planned who c core.state stored p may other reply leads batch)

pub submit_fails : {D : Type 0} (old new : Controlled) (core coming : Cored) (stored later_stored : Stored) (before spent : Bool) (desk later : D) (fault : KeepFault)
    → record { state = core.state; stored = stored; spent = before } ≡ old → record { state = coming.state; stored = later_stored; spent = spent } ≡ new → before ≡ false
    → AdvanceFails core coming stored later_stored spent desk later fault → SubmitFails old new desk later fault
submit_fails old new core coming stored later_stored before spent desk later fault e f fresh a =
    subst (λ (k : Controlled). SubmitFails k new desk later fault) e
    (subst (λ (k : Controlled). SubmitFails (record { state = core.state; stored = stored; spent = before }) k desk later fault) f (by fault a))
  where
    Seen : KeepFault → Type 0
    Seen x = SubmitFails (record { state = core.state; stored = stored; spent = before }) (record { state = coming.state; stored = later_stored; spent = spent }) desk later x

    by : (x : KeepFault) → AdvanceFails core coming stored later_stored spent desk later x → Seen x
    by Disk (is_spent, same) = (fresh, is_spent, same)
    by Full none = none
    by MarkFull none = none
    by (Damaged part at) none = none
    by Spent none = absurd none
    by NoMemory (inl (same, kept, unspent, quiet)) = (
      fresh,
      inl (
        ap (λ (n : Cored). record { state = n.state; stored = later_stored; spent = spent }) same
            ∙ ap (λ (l : Stored). record { state = core.state; stored = l; spent = spent }) kept
            ∙ ap (λ (b : Bool). record { state = core.state; stored = stored; spent = b }) (unspent ∙ sym fresh),
        quiet,
      ),
    )
    by NoMemory (inr is_spent) = (fresh, inr is_spent)

-- ---- what a folder opens to where nothing was done, and behind the append

-- Nothing was done to the desk.
pub quiet_stops : {D : Type 0} {seen : D → Seen} {stopped : D → Stopped} (desk later : D) (X : Image → Type 0)
    → later ≡ desk → ((image : Image) → (stopped desk).images image → X image) → Leaves seen stopped desk later X
quiet_stops {D} {seen} {stopped} desk later X e x =
    subst (λ (d : D). Leaves seen stopped desk d X) (sym e) (Leaves-weaker X (Leaves-none desk) x)

-- Where the store has the batch, every image opens to the state after it.
pub behind_kept : (p : Planned) (core : Cored) (stored later : Stored) (reads : Image) (images : Image → Type 0) → CanAdvance p core stored → size_with stored p.batch ≤ stored.bounds.slot
    → later ≡ with_ops stored p.batch → (later.spent ≡ false → ReadsAs later reads images) → (image : Image) → images image → OpensToState image (made_of p core.state stored).1.state
behind_kept p core stored later reads images can room e stands image m =
    let unspent : later.spent ≡ false = ap (λ (s : Stored). s.spent) e ∙ can.keeps.unspent in
    advance_next p core stored can room image (subst (λ (s : Stored). OpensTo s.format image s.rows) e (reads_opens later reads images (stands unspent) image m))

-- Where there is no room, the machine refuses the change.
pub step_full : (p : Planned) (core : Cored) (stored later : Stored) → CanAdvance p core stored → stored.bounds.slot < size_with stored p.batch → later ≡ stored
    → (Refused JournalFull, machine_with core.state later) ≡ made_of p core.state stored
step_full p core stored later can full e = ap (λ (l : Stored). (Refused JournalFull, machine_with core.state l)) e ∙ sym (made_full p core stored can full)

-- A store that is not spent behind a failure is as it was.
pub keeps_still : {D : Type 0} (ops : List Op) (core : Cored) (old new : Stored) (desk later : D) (fault : KeepFault) → Keeps core old → KeepFails ops old new desk later fault
    → new.spent ≡ false → Keeps core new
keeps_still ops core old new desk later Disk k f e = absurd (true≢false (sym (ap (λ (s : Stored). s.spent) f.1) ∙ e))
keeps_still ops core old new desk later Full k f e = absurd f
keeps_still ops core old new desk later MarkFull k f e = absurd f
keeps_still ops core old new desk later (Damaged part at) k f e = absurd f
keeps_still ops core old new desk later Spent k f e = absurd f
keeps_still ops core old new desk later NoMemory k (room, inl (same, quiet)) e = subst (Keeps core) (sym same) k
keeps_still ops core old new desk later NoMemory k (room, inr done) e = absurd (true≢false (sym (ap (λ (s : Stored). s.spent) done) ∙ e))

-- A fault that is told on.
pub same_fault : {T : Type 0} (U : Type 0) (r : Result T KeepFault) (fault other : KeepFault) → r ≡ Err fault → ◌≡◌ {A = Result U KeepFault} (Err fault) (Err other) → r ≡ Err other
same_fault {T = T} U r fault other e f = let g : fault ≡ other = cc in subst (λ (x : KeepFault). ◌≡◌ {A = Result T KeepFault} r (Err x)) g e

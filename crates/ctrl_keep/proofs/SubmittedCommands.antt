-- What is so of the whole controller where a command is refused or is not answered, from what is so of its parts.
use Rattle.std.proofs.Common.{◌≡◌, ◌⊎◌, inl, inr, Bool, true, false, Ok, Err, IfOk, true≢false, sym, ◌∙◌, subst}
use Rattle.std.specs.declared.result.Result.{Result}
use Rattle.ziti_outside.specs.Images.{Image, Else}
use Rattle.ziti_outside.specs.Views.{Seen, Stopped}
use Rattle.journal_core.specs.Room.{HoldsRoom}
use Rattle.ctrl_model.specs.declared.commands.Command.{Command}
use Rattle.ctrl_model.specs.declared.kinds.Who.{Who}
use Rattle.ctrl_model.specs.declared.refusals.Refusal.TheVariants.{NotPermitted}
use Rattle.ctrl_model.specs.declared.replies.Reply.{Reply}
use Rattle.ctrl_model.specs.declared.replies.Reply.TheVariants.{Refused}
use Rattle.ctrl_model.specs.State.{State}
use Rattle.ctrl_model.specs.ValidState.{ValidState}
use Rattle.ctrl_model.specs.Permitted.{is_permitted}
use Rattle.row_store.specs.StoredRows.{Stored, ReadsAs}
use Rattle.ctrl_core.specs.KeptState.{Cored}
use Rattle.ctrl_keep.specs.declared.faults.KeepFault.{KeepFault}
use Rattle.row_store.specs.OpenedStates.{OpensToState}
use Rattle.ctrl_keep.specs.KeptMachine.{Machine, is_compact, step}
use Rattle.ctrl_keep.specs.KeptController.{Controlled, machine_of, Keeps}
use Rattle.ctrl_keep.proofs.KeptStates.{still_opens}
use Rattle.ctrl_keep.proofs.MachineSteps.{step_refused}

-- Every image of the folder opens to the state.
pub still_state : (old : Controlled) (core : Cored) (stored : Stored) (spent : Bool) (reads : Image) (images : Image → Type 0) → record { state = core.state; stored = stored; spent = spent } ≡ old
    → Keeps core stored → ReadsAs old.stored reads images → (image : Image) → images image → OpensToState image old.state
still_state old core stored spent reads images view k r image m =
    subst (λ (c : Controlled). OpensToState image c.state) view
    (still_opens core stored reads images k (subst (λ (c : Controlled). ReadsAs c.stored reads images) (sym view) r) image m)

-- A command that is not permitted is refused, and changes nothing.
pub refused_is : (who : Who) (c : Command) (old : Controlled) (core : Cored) (stored : Stored) (spent : Bool) → record { state = core.state; stored = stored; spent = spent } ≡ old
    → ValidState core.state → is_permitted who c ≡ false → (Refused NotPermitted, machine_of old) ≡ step old.stored.bounds who c (machine_of old)
refused_is who c old core stored spent view v e =
    subst (λ (k : Controlled). (Refused NotPermitted, machine_of k) ≡ step k.stored.bounds who c (machine_of k)) view
    (sym (step_refused stored.bounds who c core.state stored v e))

-- What opens to one of two states.
pub either_same : (image : Image) (s t : State) (a b : Reply × Machine) → s ≡ t → a ≡ b → OpensToState image s ⊎ OpensToState image a.1.state
    → OpensToState image t ⊎ OpensToState image b.1.state
either_same image s t a b e f (inl p) = inl (subst (OpensToState image) e p)
either_same image s t a b e f (inr p) = inr (subst (λ (x : Reply × Machine). OpensToState image x.1.state) f p)

-- A step that is what the machine makes of a plan.
pub steps_as : (r : Result Reply KeepFault) (m : Machine) (a b : Reply × Machine) → b ≡ a → IfOk r (λ reply. (reply, m) ≡ a) → IfOk r (λ reply. (reply, m) ≡ b)
steps_as (Ok x) m a b e f = f ∙ sym e
steps_as (Err x) m a b e f = tt

-- What is so of the reply to Compact alone, of another command.
pub never_compacts : (r : Result Reply KeepFault) (c : Command) (X : Reply → Type 0) → is_compact c ≡ false → IfOk r (λ reply. is_compact c ≡ true → X reply)
never_compacts (Ok x) c X e = λ is. absurd (true≢false (sym is ∙ e))
never_compacts (Err x) c X e = tt

-- What is so of the slots by the store is so by the whole controller.
pub room_of_all : {D : Type 0} {tells : Bool} {seen : D → Seen} {stopped : D → Stopped} {desk later : D} (old : Controlled) (core : Cored) (stored : Stored) (spent : Bool)
    → record { state = core.state; stored = stored; spent = spent } ≡ old → HoldsRoom tells stored.bounds.slot seen stopped desk later → HoldsRoom tells old.stored.bounds.slot seen stopped desk later
room_of_all {tells = tells} {seen = seen} {stopped = stopped} {desk = desk} {later = later} old core stored spent view held =
    subst (λ (k : Controlled). HoldsRoom tells k.stored.bounds.slot seen stopped desk later) view held

pub else_of_all : (old : Controlled) (core : Cored) (stored : Stored) (spent : Bool) (before now : Image)
    → record { state = core.state; stored = stored; spent = spent } ≡ old → Else stored.part before now → Else old.stored.part before now
else_of_all old core stored spent before now view others = subst (λ (k : Controlled). Else k.stored.part before now) view others

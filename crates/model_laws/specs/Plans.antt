-- What the plan of a command is: a reply, and the change that carries the command out, if there is one (docs/PROMISES.md, "Plans").
-- Each family of commands has its own type of changes, and tells what a change makes of a state and what it needs of it.
use Rattle.std.specs.Prelude.{◌≡◌, ⊤, Bool, true, false, None, Some}
use Rattle.std.specs.declared.option.Option.{Option}
use Rattle.ctrl_model.specs.declared.refusals.Refusal.{Refusal}
use Rattle.ctrl_model.specs.declared.replies.Reply.{Reply}
use Rattle.ctrl_model.specs.declared.replies.Reply.TheVariants as reply
use Rattle.ctrl_model.specs.Settling.{settle}
use Rattle.ctrl_model.specs.State.{State}
use Rattle.model_laws.specs.declared.plans.Plan.{Plan}

-- The plan of a reply that changes nothing.
abbrev pub shown : {C : Type 0} → Reply → Plan C
shown r = record { reply = r; change = None }

-- The plan of a refusal, which changes nothing.
abbrev pub refused : {C : Type 0} → Refusal → Plan C
refused r = shown (reply.Refused r)

-- The plan of a reply with a change.
abbrev pub changed : {C : Type 0} → Reply → C → Plan C
changed r c = record { reply = r; change = Some c }

-- Whether a reply may tell that something was changed. A refusal tells that nothing was, and so does each reply that shows
-- something.
abbrev pub tells_change : Reply → Bool
tells_change reply.Done = true
tells_change (reply.Made n) = true
tells_change (reply.Circuit circuit ingress links terminator total) = true
tells_change _ = false

-- Where a plan leads: the state stays where nothing changes, and is settled after a change.
abbrev pub led_by : {C : Type 0} → (C → State → State) → Option C → State → State
led_by after None s = s
led_by after (Some c) s = settle (after c s)

-- The change of a plan can be made, if there is one.
abbrev pub CanLeadBy : {C : Type 0} → (C → State → Type 0) → Option C → State → Type 0
CanLeadBy can None s = ⊤
CanLeadBy can (Some c) s = can c s

-- The plan of an answer, where a change leads to a state and needs something of the one before: its reply, that it can lead to the
-- answer's state, and that it has no change where its reply tells of none.
pub record Plans {C : Type 0} (after : C → State → State) (can_be : C → State → Type 0) (p : Plan C) (answered : Reply × State) (s : State) : Type 0 where
  pub reply : p.reply ≡ answered.0
  pub can : CanLeadBy can_be p.change s
  pub next : led_by after p.change s ≡ answered.1
  pub still : tells_change answered.0 ≡ false → p.change ≡ None

-- What follows from how a command is carried out: from its refusals, from a name that is looked up, and from permission.
use Rattle.std.proofs.Common.{◌≡◌, ℕ, ◌<◌, Bool, true, false, cond, not, length, Option, None, Some, refl, ltb-true}
use Rattle.std.proofs.lemmas.Bool.{and_parts, not-false}
use Rattle.ctrl_model.specs.declared.refusals.Denial.{Denial}
use Rattle.ctrl_model.specs.declared.refusals.Denial.TheVariants.{NoPath}
use Rattle.ctrl_model.specs.declared.refusals.Field.{Field}
use Rattle.ctrl_model.specs.declared.refusals.Refusal.{Refusal}
use Rattle.ctrl_model.specs.declared.replies.Reply.{Reply}
use Rattle.ctrl_model.specs.declared.replies.Reply.TheVariants.{Refused}
use Rattle.ctrl_model.specs.Limits.{last_next}
use Rattle.ctrl_model.specs.Numbered.{Table}
use Rattle.ctrl_model.specs.State.{State}
use Rattle.ctrl_model.specs.Tables.{has_room}
use Rattle.ctrl_model.specs.Settling.{settle}
use Rattle.ctrl_model.specs.Choices.{Candidate}
use Rattle.ctrl_model.specs.CircuitCommands.{decided}
use Rattle.ctrl_model.specs.Rules.{or_then, refuse_if, carried_out, shown, unknown_if_absent, exists_if_present, at_number}

-- ---- where no refusal comes, none of its parts comes

pub or_then-none : (a b : Option Refusal) → or_then a b ≡ None → (a ≡ None) × (b ≡ None)
or_then-none None b e = (refl, e)
or_then-none (Some r) b e = absurd (cc)

pub refuse_if-none : (test : Bool) (r : Refusal) → refuse_if test r ≡ None → test ≡ false
refuse_if-none true r e = absurd (cc)
refuse_if-none false r e = refl

pub exists_if_present-none : (found : Option ℕ) → exists_if_present found ≡ None → found ≡ None
exists_if_present-none None e = refl
exists_if_present-none (Some n) e = absurd (cc)

pub unknown_if_absent-none : {P : Type 0} (field : Field) (found : Option ℕ) → unknown_if_absent field found ≡ None → ((n : ℕ) → found ≡ Some n → P) → P
unknown_if_absent-none field None e k = absurd (cc)
unknown_if_absent-none field (Some n) e k = k n refl

pub has_room-parts : {R : Type 0} (most : ℕ) (t : Table R) → not (has_room most t) ≡ false → (length t.rows < most) × (t.next < last_next)
has_room-parts most t e =
    let both = and_parts _ _ (not-false (has_room most t) e) in
    (ltb-true (length t.rows) most both.0, ltb-true t.next last_next both.1)

pub full-none : {R : Type 0} (most : ℕ) (t : Table R) (r : Refusal) → refuse_if (not (has_room most t)) r ≡ None
    → (length t.rows < most) × (t.next < last_next)
full-none most t r e = has_room-parts most t (refuse_if-none (not (has_room most t)) r e)

-- ---- what holds of the old state and of the effect holds of the next state

pub carried_out-holds : (P : State → Type 0) (o : Option Refusal) (s : State) (reply : Reply) (effect : State) → P s → (o ≡ None → P (settle effect))
    → P (carried_out o s reply effect).1
carried_out-holds P None s reply effect old new = new refl
carried_out-holds P (Some r) s reply effect old new = old

pub at_number-holds : (P : State → Type 0) (found : Option ℕ) (s : State) (effect : ℕ → State) → P s → ((n : ℕ) → found ≡ Some n → P (effect n))
    → P (at_number found s effect)
at_number-holds P None s effect old new = old
at_number-holds P (Some n) s effect old new = new n refl

pub cond-holds : {X : Type 0} (P : X → Type 0) (test : Bool) (x y : X) → P x → P y → P (cond test x y)
cond-holds P true x y p q = p
cond-holds P false x y p q = q

-- ---- a refused command leaves the state

pub shown-leaves : (o : Option Refusal) (s : State) (reply : Reply) → (shown o s reply).1 ≡ s
shown-leaves None s reply = refl
shown-leaves (Some r) s reply = refl

-- a reply is a refusal only where the state is the old one
abbrev pub LeavesIfRefused : State → Reply × State → Type 0
LeavesIfRefused s a = (r : Refusal) → a.0 ≡ Refused r → a.1 ≡ s

pub carried_out-leaves : (o : Option Refusal) (s : State) (reply : Reply) (effect : State) → ((r : Refusal) → reply ≡ Refused r → ⊥)
    → LeavesIfRefused s (carried_out o s reply effect)
carried_out-leaves None s reply effect apart r e = absurd (apart r e)
carried_out-leaves (Some q) s reply effect apart r e = refl

-- ---- a route request is denied or granted

pub decided-holds : (P : Reply × State → Type 0) (o : Option Denial) (c : Option Candidate) (denied : Denial → Reply × State) (granted : Candidate → Reply × State)
    → ((d : Denial) → P (denied d)) → ((c : Candidate) → o ≡ None → P (granted c)) → P (decided o c denied granted)
decided-holds P (Some d) c denied granted when_denied when_granted = when_denied d
decided-holds P None None denied granted when_denied when_granted = when_denied NoPath
decided-holds P None (Some c) denied granted when_denied when_granted = when_granted c refl

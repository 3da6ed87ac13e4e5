-- What a plan has to show, whatever changes its family has: of something shown, of a refusal, and of a change that is carried out.
use Rattle.std.proofs.Common.{◌≡◌, true, Option, None, Some, refl, sym, ◌∙◌, ap, subst}
use Rattle.std.proofs.lemmas.Bool.{true≢false}
use Rattle.ctrl_model.specs.declared.refusals.Refusal.{Refusal}
use Rattle.ctrl_model.specs.declared.replies.Reply.{Reply}
use Rattle.ctrl_model.specs.Rules.{carried_out}
use Rattle.ctrl_model.specs.Settling.{settle}
use Rattle.ctrl_model.specs.State.{State}
use Rattle.model_laws.specs.Plans.{Plans, refused, changed, tells_change}

module _ {C : Type 0} {after : C → State → State} {can_be : C → State → Type 0} where
  -- a refusal that comes changes nothing
  pub plans_refused : (o : Option Refusal) (r : Refusal) (s : State) (reply : Reply) (effect : State) → o ≡ Some r → Plans after can_be (refused r) (carried_out o s reply effect) s
  plans_refused o r s reply effect e =
      subst (λ q. Plans after can_be (refused r) (carried_out q s reply effect) s) (sym e) (record { reply = refl; can = tt; next = refl; still = λ none. refl })

  -- where none comes the change leads to the settled effect
  pub plans_carried : (c : C) (o : Option Refusal) (s : State) (reply : Reply) (effect : State) → o ≡ None → tells_change reply ≡ true → can_be c s → after c s ≡ effect
      → Plans after can_be (changed reply c) (carried_out o s reply effect) s
  plans_carried c o s reply effect e tells can leads =
      subst (λ q. Plans after can_be (changed reply c) (carried_out q s reply effect) s) (sym e)
      (record { reply = refl; can = can; next = ap settle leads; still = λ none. absurd (true≢false (sym tells ∙ none)) })

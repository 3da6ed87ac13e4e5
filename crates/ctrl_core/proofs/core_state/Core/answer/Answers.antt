use Rattle.std.proofs.Common.{◌≡◌, IfOk, Ok, Err, sym, ◌∙◌, ap, subst}
use Rattle.std.specs.declared.result.Result.{Result}
use Rattle.ctrl_model.specs.Controller.{carry}
use Rattle.ctrl_model.specs.ValidState.{ValidState}
use Rattle.model_laws.specs.Plans.{CanLeadBy, led_by}
use Rattle.grant_steps.specs.LeadingSteps.{LeadAllCounts}
use Rattle.core_stores.specs.StoredState.{state_of}
use Rattle.ctrl_core.specs.Changes.{CanChange, NamesSettled, after_change}
use Rattle.ctrl_core.specs.KeptState.{Cored}
use Rattle.ctrl_core.proofs.PlanLaws.{can_be_made, can_complete}
use Rattle.ctrl_core.proofs.core_state.Core.answer.Goals as goal

pub settled_after-requires-clause-can : goal.settled_after-requires-clause-can
settled_after-requires-clause-can c =
    can_complete c.self.inside.stores c.in_ok-draft.draft c.args.command.now (c.self.invariant (ap (λ (v : Cored). v.live) c.self.view_is ∙ c.requires.live)).0 c.requires.spelled c.in_ok-draft.ensures

pub settled_after-requires-clause-granted : goal.settled_after-requires-clause-granted
settled_after-requires-clause-granted c = (c.self.invariant (ap (λ (v : Cored). v.live) c.self.view_is ∙ c.requires.live)).1

pub go_on-requires-clause-can : goal.go_on-requires-clause-can
go_on-requires-clause-can c =
    subst (λ (v : Cored). CanLeadBy CanChange c.in_ok-draft.draft.change v.state) c.self.view_is (can_be_made c.in_ok-draft.draft.change (state_of c.self.inside.stores) c.in_ok-draft.ensures.can)

pub go_on-requires-clause-valid : goal.go_on-requires-clause-valid
go_on-requires-clause-valid c =
    subst (λ (v : Cored). ValidState (led_by after_change c.in_ok-draft.draft.change v.state)) c.self.view_is
    (can_complete c.self.inside.stores c.in_ok-draft.draft c.args.command.now (c.self.invariant (ap (λ (v : Cored). v.live) c.self.view_is ∙ c.requires.live)).0 c.requires.spelled c.in_ok-draft.ensures).valid

pub go_on-requires-clause-settled : goal.go_on-requires-clause-settled
go_on-requires-clause-settled c = subst (λ (v : Cored). NamesSettled c.in_ok-draft.draft.change v.state c.in-Ok.settled) c.self.view_is c.in-Ok.ensures

pub go_on-requires-clause-counts : goal.go_on-requires-clause-counts
go_on-requires-clause-counts c =
    subst (λ (v : Cored). LeadAllCounts v.state (led_by after_change c.in_ok-draft.draft.change v.state) c.in_ok-draft.draft.steps) c.self.view_is
    (can_complete c.self.inside.stores c.in_ok-draft.draft c.args.command.now (c.self.invariant (ap (λ (v : Cored). v.live) c.self.view_is ∙ c.requires.live)).0 c.requires.spelled c.in_ok-draft.ensures).counts

both : {T E : Type 0} (r : Result T E) {P Q R : T → Type 0} → ((x : T) → P x → Q x → R x) → IfOk r P → IfOk r Q → IfOk r R
both (Ok x) f p q = f x p q
both (Err e) f p q = tt

pub returns-in-Ok-clause-answered : goal.returns-in-Ok-clause-answered
returns-in-Ok-clause-answered c =
    let command = c.args.command.now in
    both c.go_on.result (λ r is gone.
    let reply = is ∙ c.in_ok-draft.ensures.reply ∙ ap (λ (v : Cored). (carry command v.state).0) c.self.view_is in
    let next = ap (λ (v : Cored). v.state) gone
    ∙ subst (λ (v : Cored). led_by after_change c.in_ok-draft.draft.change v.state ≡ (carry command v.state).1) c.self.view_is c.in_ok-draft.ensures.next in
    λ i. (reply i, next i)) c.go_on.ensures.reply c.go_on.ensures.next

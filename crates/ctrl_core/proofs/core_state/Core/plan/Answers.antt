use Rattle.std.proofs.Common.{◌≡◌, sym, ◌∙◌, ap, subst}
use Rattle.std.proofs.lemmas.Result.{IfOk-weaker}
use Rattle.ctrl_model.specs.Controller.{carry, counted}
use Rattle.ctrl_model.specs.State.{State}
use Rattle.model_laws.specs.Plans.{tells_change}
use Rattle.row_codec.specs.Batches.{batch_between}
use Rattle.ctrl_core.specs.Changes.{LeadsFrom}
use Rattle.ctrl_core.specs.KeptFormat.{kept_format}
use Rattle.core_stores.specs.StoredState.{state_of}
use Rattle.ctrl_core.proofs.PlanLaws.{can_complete, leads_from, still_is}
use Rattle.ctrl_core.proofs.core_state.Core.plan.Goals as goal

pub completed-requires-clause-can : goal.completed-requires-clause-can
completed-requires-clause-can c =
    can_complete c.self.inside.stores c.in_ok-draft.draft c.args.command.now (c.self.invariant (ap (λ v. v.live) c.self.view_is ∙ c.requires.live)).0 c.requires.spelled c.in_ok-draft.ensures

pub completed-requires-clause-granted : goal.completed-requires-clause-granted
completed-requires-clause-granted c = (c.self.invariant (ap (λ v. v.live) c.self.view_is ∙ c.requires.live)).1

pub returns-clause-reply : goal.returns-clause-reply
returns-clause-reply c =
    IfOk-weaker c.completed.result _ _ (λ p made. made.reply_is ∙ c.in_ok-draft.ensures.reply ∙ ap (λ v. (carry c.args.command.now v.state).0) c.self.view_is) c.completed.ensures

pub returns-clause-leads : goal.returns-clause-leads
returns-clause-leads c =
    let st = c.self.inside.stores in
    let keeps = (c.self.invariant (ap (λ v. v.live) c.self.view_is ∙ c.requires.live)).0 in
    IfOk-weaker c.completed.result _ _ (λ p made.
    subst (λ s. LeadsFrom p s (counted s (carry c.args.command.now s).1)) (ap (λ v. v.state) c.self.view_is)
    (leads_from st c.in_ok-draft.draft p c.args.command.now (can_complete st c.in_ok-draft.draft c.args.command.now keeps c.requires.spelled c.in_ok-draft.ensures) c.in_ok-draft.ensures made)) c.completed.ensures

pub returns-clause-still : goal.returns-clause-still
returns-clause-still c =
    IfOk-weaker c.completed.result _ _ (λ p made tells.
    still_is c.self.inside.stores c.in_ok-draft.draft p made (c.in_ok-draft.ensures.still (ap tells_change (sym (made.reply_is ∙ c.in_ok-draft.ensures.reply)) ∙ tells))) c.completed.ensures

pub returns-clause-batch : goal.returns-clause-batch
returns-clause-batch c =
    IfOk-weaker c.completed.result _ _ (λ p made.
    subst (λ (s : State). p.batch ≡ batch_between kept_format s (counted s (carry c.args.command.now s).1)) (ap (λ v. v.state) c.self.view_is)
    (made.batch_is ∙ ap (λ t. batch_between kept_format (state_of c.self.inside.stores) (counted (state_of c.self.inside.stores) t)) c.in_ok-draft.ensures.next)) c.completed.ensures

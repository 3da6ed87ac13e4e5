use Rattle.std.proofs.Common.{◌≡◌, ◌||◌, is_some, sym, ◌∙◌, ap, subst}
use Rattle.ctrl_model.specs.ValidState.{ValidState}
use Rattle.model_laws.specs.Plans.{CanLeadBy, led_by}
use Rattle.grant_steps.specs.LeadingSteps.{LeadAllCounts}
use Rattle.core_stores.specs.StoredState.{state_of}
use Rattle.ctrl_core.specs.Changes.{CanChange, NamesSettled, after_change}
use Rattle.ctrl_core.specs.KeptState.{Cored, IsGranted}
use Rattle.ctrl_core.proofs.KeptRows.{led_serial}
use Rattle.ctrl_core.proofs.StepLaws.{granted_after}
use Rattle.ctrl_core.proofs.core_state.Core.go_on.Goals as goal

pub move_stores-requires-clause-kept : goal.move_stores-requires-clause-kept
move_stores-requires-clause-kept c = (c.self.invariant (ap (λ (v : Cored). v.live) c.self.view_is ∙ c.requires.live)).0

pub invariant_of-self-2 : goal.invariant_of-self-2
invariant_of-self-2 c = λ _.
    let kept = c.self.invariant (ap (λ (v : Cored). v.live) c.self.view_is ∙ c.requires.live) in
    let can = subst (λ (v : Cored). CanLeadBy CanChange c.args.change v.state) (sym c.self.view_is) c.requires.can in
    let valid = subst (λ (v : Cored). ValidState (led_by after_change c.args.change v.state)) (sym c.self.view_is) c.requires.valid in (
      c.in_ok-move_stores.ensures.kept,
      subst (λ b. IsGranted (c.self.inside.granted || b) (state_of c.move_stores.new.stores)) (sym c.is_some.ensures)
          (subst (IsGranted (c.self.inside.granted || is_some c.args.change)) (sym c.in_ok-move_stores.ensures.next) (granted_after c.self.inside.granted c.args.change c.self.inside.stores kept.0 can valid kept.1)),
    )

pub move_stores-requires-clause-can : goal.move_stores-requires-clause-can
move_stores-requires-clause-can c = subst (λ (v : Cored). CanLeadBy CanChange c.args.change v.state) (sym c.self.view_is) c.requires.can

pub move_stores-requires-clause-valid : goal.move_stores-requires-clause-valid
move_stores-requires-clause-valid c = subst (λ (v : Cored). ValidState (led_by after_change c.args.change v.state)) (sym c.self.view_is) c.requires.valid

pub move_stores-requires-clause-settled : goal.move_stores-requires-clause-settled
move_stores-requires-clause-settled c = subst (λ (v : Cored). NamesSettled c.args.change v.state c.args.settled) (sym c.self.view_is) c.requires.settled

pub move_stores-requires-clause-counts : goal.move_stores-requires-clause-counts
move_stores-requires-clause-counts c = subst (λ (v : Cored). LeadAllCounts v.state (led_by after_change c.args.change v.state) c.args.steps.now) (sym c.self.view_is) c.requires.counts

pub returns-clause-was_valid : goal.returns-clause-was_valid
returns-clause-was_valid c =
    subst (λ (v : Cored). ValidState v.state) c.self.view_is (c.self.invariant (ap (λ (v : Cored). v.live) c.self.view_is ∙ c.requires.live)).0.valid

pub returns-clause-same_serial : goal.returns-clause-same_serial
returns-clause-same_serial c =
    let keeps = (c.self.invariant (ap (λ (v : Cored). v.live) c.self.view_is ∙ c.requires.live)).0 in
    let can = subst (λ (v : Cored). CanLeadBy CanChange c.args.change v.state) (sym c.self.view_is) c.requires.can in
    let valid = subst (λ (v : Cored). ValidState (led_by after_change c.args.change v.state)) (sym c.self.view_is) c.requires.valid in
    subst (λ (v : Cored). (led_by after_change c.args.change v.state).serial ≡ v.state.serial) c.self.view_is (led_serial c.args.change c.self.inside.stores keeps can valid)

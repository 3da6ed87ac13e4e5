use Rattle.std.proofs.Common.{◌≡◌, ℕ, List, sym, ◌∙◌, ap, subst}
use Rattle.ctrl_model.specs.declared.intercepts.Intercept.{Intercept}
use Rattle.ctrl_model.specs.Numbered.{with_at}
use Rattle.state_building.specs.JoinedRecords.{claimed, flaw_of_intercept}
use Rattle.core_stores.specs.StoredState.{state_of}
use Rattle.ctrl_core.specs.JoinedRows.{KeepState}
use Rattle.ctrl_core.proofs.TakenLaws.{entities_of, is_last, keeps_claim, none_told, takes_flaw, takes_none}
use Rattle.ctrl_core.proofs.taking.take_claim.Goals as goal

pub returns-then-is_some : goal.returns-then-is_some
returns-then-is_some c =
    let st = c.args.stores.now in
    takes_flaw c.claim_flaw-flaw.result _ _ _ (sym c.is_some.ensures ∙ c.if-is_some.true)
    (c.claim_flaw-flaw.ensures c.args.intercept.now (state_of st) c.requires.form (entities_of st c.requires.kept.held)
    (is_last st.entities.services.next st.intercepts c.last_claim-last.result c.requires.kept.valid.ordered c.last_claim-last.ensures))

pub returns : goal.returns
returns c =
    let st = c.args.stores.now in
    let none = none_told c.claim_flaw-flaw.result (sym c.is_some.ensures ∙ c.if-is_some.false) in
    let told : c.claim_flaw-flaw.result ≡ flaw_of_intercept c.args.service.0 c.args.intercept.now (state_of st) =
    c.claim_flaw-flaw.ensures c.args.intercept.now (state_of st) c.requires.form (entities_of st c.requires.kept.held)
    (is_last st.entities.services.next st.intercepts c.last_claim-last.result c.requires.kept.valid.ordered c.last_claim-last.ensures) in
    let set : c.set.new.self ≡ with_at c.args.service.0 c.args.intercept.now st.intercepts =
    c.in_ok-set.ensures.ok ∙ ap (λ (i : Intercept). with_at c.args.service.0 i st.intercepts) c.in_ok-intercept.ensures in
    takes_none c.claim_flaw-flaw.result _ _ _ none told
    (subst (λ (claims : List (ℕ × Intercept)). KeepState (record st { intercepts = claims }) (claimed c.args.service.0 c.args.intercept.now (state_of st))) (sym set)
    (keeps_claim c.args.service c.args.intercept.now st c.requires.kept (sym told ∙ none)))

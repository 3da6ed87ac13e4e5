use Rattle.std.proofs.Common.{◌≡◌, refl, ◌∙◌, ap}
use Rattle.std.proofs.lemmas.Result.{IfOk-weaker}
use Rattle.std.specs.Option.{option_map}
use Rattle.core_stores.specs.Claims.{claim_gone, claim_part}
use Rattle.core_stores.specs.StoredState.{state_of}
use Rattle.ctrl_core.specs.ChangedStores.{next_state}
use Rattle.ctrl_core.specs.KeptFormat.{kept_format}
use Rattle.ctrl_core.proofs.KeptRows.{claims_are, claims_end, claims_fit, found_claim}
use Rattle.ctrl_core.proofs.row_changes.intercept_rows.Goals as goal

pub intercept_changes-requires-clause-before : goal.intercept_changes-requires-clause-before
intercept_changes-requires-clause-before c = claims_are (state_of c.args.stores.now) c.requires.before

pub intercept_changes-requires-clause-after : goal.intercept_changes-requires-clause-after
intercept_changes-requires-clause-after c =
    claims_fit c.args.change.now (state_of c.args.stores.now) _ c.requires.can
    (ap (option_map (λ i. i.now)) c.or-change.ensures
    ∙ found_claim c.args.change.now _ _ c.of_intercepts.ensures (c.as_ref.ensures.value ∙ c.claim_gone-gone.ensures ∙ ap claim_gone c.of_entities.ensures))

pub returns : goal.returns
returns c =
    let s = state_of c.args.stores.now in
    let t = next_state c.args.stores.now c.args.change.now in
    let found = ap (option_map (λ i. i.now)) c.or-change.ensures
    ∙ found_claim c.args.change.now _ _ c.of_intercepts.ensures (c.as_ref.ensures.value ∙ c.claim_gone-gone.ensures ∙ ap claim_gone c.of_entities.ensures) in
    IfOk-weaker c.intercept_changes.result _ _ (λ changes covers. covers kept_format s t tt tt refl (claims_end c.args.change.now c.args.stores.now _ c.requires found)) c.intercept_changes.ensures

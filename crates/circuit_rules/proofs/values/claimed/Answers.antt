use Rattle.std.proofs.Common.{sym, ◌∙◌, ap}
use Rattle.std.specs.Option.{option_map_or}
use Rattle.ctrl_model.specs.declared.claims.Reach.{Reach}
use Rattle.ctrl_model.specs.Claims.{no_path, router_numbers, value_at}
use Rattle.circuit_rules.specs.Views.{network}
use Rattle.circuit_rules.proofs.ValueLaws.{entry_for-find}
use Rattle.circuit_rules.proofs.values.claimed.Goals as goal

pub returns-in-Some : goal.returns-in-Some
returns-in-Some c =
    let ns = router_numbers (network c.args.view.now) in
    c.value_at.ensures
    ∙ ap (λ vs. value_at ns vs c.args.router.0) c.as_slice.ensures
    ∙ ap (λ o. option_map_or (λ (e : Reach). value_at ns e.values c.args.router.0) o no_path) (c.in-Some.ensures ∙ sym (entry_for-find c.args.entries.now c.args.target.0))

pub returns-in-None : goal.returns-in-None
returns-in-None c =
    let ns = router_numbers (network c.args.view.now) in
    ap (λ o. option_map_or (λ (e : Reach). value_at ns e.values c.args.router.0) o no_path) (c.in-None.ensures ∙ sym (entry_for-find c.args.entries.now c.args.target.0))

use Rattle.std.proofs.Common.{◌≡◌, drop}
use Rattle.std.specs.List.{list_all}
use Rattle.ctrl_model.specs.Claims.{is_no_better}
use Rattle.circuit_rules.specs.declared.offers.Offer.{Offer}
use Rattle.circuit_rules.specs.Views.{network}
use Rattle.circuit_rules.specs.Parts.{term_offered, unloaded}
use Rattle.circuit_rules.proofs.beating.none_beats_from.Given as goal

-- those that are left beat the claim exactly if some do
abbrev pub invariant-offers : goal.invariant-offers
invariant-offers l =
    list_all (λ (o : Offer). is_no_better (unloaded (network l.view)) l.claim l.place l.ingress.0 (term_offered o)) (drop l.offer-index l.offers)
    ≡ list_all (λ (o : Offer). is_no_better (unloaded (network l.view)) l.claim l.place l.ingress.0 (term_offered o)) l.offers

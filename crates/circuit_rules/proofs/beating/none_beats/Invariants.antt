use Rattle.std.proofs.Common.{◌≡◌, Bool, drop}
use Rattle.std.specs.List.{list_all}
use Rattle.ctrl_model.specs.declared.kinds.RouterSeen.{RouterSeen}
use Rattle.ctrl_model.specs.Claims.{is_no_better}
use Rattle.circuit_rules.specs.declared.offers.Offer.{Offer}
use Rattle.circuit_rules.specs.Views.{network}
use Rattle.circuit_rules.specs.Parts.{term_offered, unloaded}
use Rattle.circuit_rules.proofs.beating.none_beats.Given as goal

-- from those that are left some offer beats the claim exactly if one does from any
abbrev pub invariant-ingresses : goal.invariant-ingresses
invariant-ingresses l =
    list_all (λ (r : RouterSeen). list_all (λ (o : Offer). is_no_better (unloaded (network l.view)) l.claim l.place r.no.0 (term_offered o)) l.offers) (drop l.ingress-index l.ingresses)
    ≡ list_all (λ (r : RouterSeen). list_all (λ (o : Offer). is_no_better (unloaded (network l.view)) l.claim l.place r.no.0 (term_offered o)) l.offers) l.ingresses

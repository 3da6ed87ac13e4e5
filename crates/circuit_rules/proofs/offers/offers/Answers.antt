use Rattle.std.proofs.Common.{◌≡◌, IfOk, ◌∙◌, ap, subst}
use Rattle.std.specs.List.{filter_map}
use Rattle.circuit_rules.specs.Views.{network}
use Rattle.circuit_rules.specs.Offers.{offer_at}
use Rattle.circuit_rules.proofs.OfferLaws.{offers-admissible}
use Rattle.circuit_rules.proofs.offers.offers.Goals as goal

pub returns-clause-offers : goal.returns-clause-offers
returns-clause-offers c =
    let w = network c.args.view.now in
    subst (λ os. IfOk c.offers_at.result (λ v. v.items ≡ os))
    (ap (filter_map (offer_at w)) (c.as_slice.ensures ∙ c.in_ok-numbers.ensures) ∙ offers-admissible w c.args.service.0 _ c.args.instance.now c.next-next.ensures.keeps.ordered)
    c.offers_at.ensures

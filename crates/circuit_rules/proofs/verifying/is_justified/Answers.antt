use Rattle.std.proofs.Common.{◌≡◌, IfOk, map, ◌∙◌, ap, ap₂, subst}
use Rattle.ctrl_model.specs.Choices.{ingresses}
use Rattle.ctrl_model.specs.Networks.{admissible}
use Rattle.circuit_rules.specs.Views.{network, asked}
use Rattle.circuit_rules.specs.Offers.{offer_of}
use Rattle.circuit_rules.specs.Parts.{is_justified_by}
use Rattle.circuit_rules.proofs.PartLaws.{justified-by}
use Rattle.circuit_rules.proofs.verifying.is_justified.Goals as goal

pub returns : goal.returns
returns c = λ e is.
    let w = network c.args.view.now in
    subst (λ b. IfOk c.is_justified_by.result (λ yes. yes ≡ b))
    (ap₂ (λ rs os. is_justified_by w c.args.claim.now c.args.identity.0 c.args.service.0 rs os c.args.offer)
    (c.as_slice.ensures.value ∙ c.in_ok-ingresses.ensures) (c.as_slice-2.ensures.value ∙ c.in_ok-offers.ensures.offers)
    ∙ ap (is_justified_by w c.args.claim.now c.args.identity.0 c.args.service.0 (ingresses w (asked c.args.ask.now).ingress c.args.identity.0 c.args.service.0) (map (offer_of w) (admissible w c.args.service.0 (asked c.args.ask.now).instance))) is
    ∙ justified-by w (asked c.args.ask.now) c.args.claim.now c.args.identity.0 c.args.service.0 e)
    c.is_justified_by.ensures

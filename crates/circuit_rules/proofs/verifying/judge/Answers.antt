use Rattle.std.proofs.Common.{◌≡◌, IfOk, sym, ap, subst}
use Rattle.std.specs.Option.{option_map}
use Rattle.circuit_rules.specs.Views.{network, asked}
use Rattle.circuit_rules.proofs.PartLaws.{judged-offer, justified-named}
use Rattle.circuit_rules.proofs.verifying.judge.Goals as goal

pub returns-in-Some-offer_at : goal.returns-in-Some-offer_at
returns-in-Some-offer_at c =
    let w = network c.args.view.now in
    let ask = asked c.args.ask.now in
    subst (λ b. IfOk c.is_justified.result (λ yes. yes ≡ b))
    (sym (justified-named w ask c.args.claim.now c.in-Some.identity.0 c.in-Some-service.service.0 (ap (option_map (λ n. n.0)) c.in-Some.is) (ap (option_map (λ n. n.0)) c.in-Some-service.is)))
    (judged-offer w ask c.args.claim.now c.in-Some.identity.0 c.in-Some-service.service.0 c.in-Some-offer_at.offer c.is_justified.result c.in-Some-offer_at.ensures c.is_justified.ensures)

use Rattle.std.proofs.Common.{map, refl, sym, ◌∙◌, ap, subst}
use Rattle.std.specs.Option.{IsSome, option_map}
use Rattle.ctrl_model.specs.Networks.{admissible}
use Rattle.model_laws.proofs.NumberLaws.{Between-none_twice}
use Rattle.circuit_rules.specs.Views.{network, asked}
use Rattle.circuit_rules.specs.Offers.{offer_of}
use Rattle.circuit_rules.specs.Reached.{explained}
use Rattle.circuit_rules.proofs.BestClaimLaws.{found_justified, explained_best}
use Rattle.circuit_rules.proofs.GrantLaws.{offered, explained-is, explains}
use Rattle.circuit_rules.proofs.explaining.explain_route.Goals as goal

pub unwrap-offer-requires : goal.unwrap-offer-requires
unwrap-offer-requires c =
    let w = network c.args.view.now in
    let once = Between-none_twice 1 c.args.view.now.terminators.now.terminators.next w.terminators c.next-next.ensures.keeps.ordered in
    subst IsSome (sym (c.offer_at.ensures ∙ offered w (asked c.args.ask.now) c.args.found.route c.requires.granted once)) refl

pub returns-clause-explained : goal.returns-clause-explained
returns-clause-explained c =
    let w = network c.args.view.now in
    let ask = asked c.args.ask.now in
    let once = Between-none_twice 1 c.args.view.now.terminators.now.terminators.next w.terminators c.next-next.ensures.keeps.ordered in
    explains w ask c.args.found.route c.requires.granted c.explanation.result
    (explained w (map (offer_of w) (admissible w c.unwrap-service.result.0 ask.instance)) c.place_of-most.result c.args.found.route)
    (ap (λ most. explained w (map (offer_of w) (admissible w c.unwrap-service.result.0 ask.instance)) most c.args.found.route) c.place_of-most.ensures
    ∙ explained-is w ask c.args.found.route c.requires.granted c.unwrap-service.result.0 c.unwrap-offer.result once (ap (λ o. option_map (λ s. s.0) o) c.unwrap-service.ensures)
    (sym c.offer_at.ensures ∙ c.unwrap-offer.ensures))
    c.explanation.ensures

pub returns-clause-justified : goal.returns-clause-justified
returns-clause-justified c =
    found_justified c.args.view.now (asked c.args.ask.now) c.explanation.result
    (record { links = c.next-next_link.ensures.numbers; routers = c.requires.routers; terminators = c.next-next.ensures.keeps })
    (returns-clause-explained c)

pub returns-clause-best : goal.returns-clause-best
returns-clause-best c =
    explained_best c.args.view.now (asked c.args.ask.now) c.explanation.result
    (record { links = c.next-next_link.ensures.numbers; routers = c.requires.routers; terminators = c.next-next.ensures.keeps })
    (returns-clause-explained c)

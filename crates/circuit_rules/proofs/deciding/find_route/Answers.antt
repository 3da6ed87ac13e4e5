use Rattle.std.proofs.Common.{rules, ap, subst}
use Rattle.circuit_rules.proofs.EntryLaws.{entered_wants}
use Rattle.std.specs.Option.{option_map}
use Rattle.circuit_rules.specs.declared.deciding.Found.{Found}
use Rattle.circuit_rules.specs.Views.{network, asked}
use Rattle.circuit_rules.specs.Searched.{IsBestWay, MayBeEntered}
use Rattle.circuit_rules.proofs.RequestLaws.{no_path, no_room, granted, denied, handed_on}
use Rattle.circuit_rules.proofs.deciding.find_route.Goals as goal

pub best_route-requires : goal.best_route-requires
best_route-requires c = record {
  routers = c.requires;
  who = ap (option_map (λ n. n.0)) c.in-Some.is;
  what = ap (option_map (λ n. n.0)) c.in-Some-service.is;
}

pub returns-in_default-2-clause-decides : goal.returns-in_default-2-clause-decides
returns-in_default-2-clause-decides c =
    let w = network c.args.view.now in
    let ask = asked c.args.ask.now in
    no_path w ask c.in-Some.identity.0 c.in-Some-service.service.0
    (record { who = ap (option_map (λ n. n.0)) c.in-Some.is; what = ap (option_map (λ n. n.0)) c.in-Some-service.is; passes = c.in_ok-found.ensures.best.0 })
    (subst (λ o. IsBestWay w ask c.in-Some.identity.0 c.in-Some-service.service.0 (option_map (λ (f : Found). f.route) o)) c.in_default-2.is c.in_ok-found.ensures.best.1)

pub returns-then-view-clause-decides : goal.returns-then-view-clause-decides
returns-then-view-clause-decides c =
    let w = network c.args.view.now in
    let ask = asked c.args.ask.now in
    no_room w ask c.in-Some.identity.0 c.in-Some-service.service.0 c.in-Some-2.found.route
    (record { who = ap (option_map (λ n. n.0)) c.in-Some.is; what = ap (option_map (λ n. n.0)) c.in-Some-service.is; passes = c.in_ok-found.ensures.best.0 })
    (subst (λ o. IsBestWay w ask c.in-Some.identity.0 c.in-Some-service.service.0 (option_map (λ (f : Found). f.route) o)) c.in-Some-2.is c.in_ok-found.ensures.best.1)
    c.if-view.true

pub returns-clause-decides : goal.returns-clause-decides
returns-clause-decides c =
    let w = network c.args.view.now in
    let ask = asked c.args.ask.now in
    granted w ask c.in-Some.identity.0 c.in-Some-service.service.0 c.in-Some-2.found.route
    (record { who = ap (option_map (λ n. n.0)) c.in-Some.is; what = ap (option_map (λ n. n.0)) c.in-Some-service.is; passes = c.in_ok-found.ensures.best.0 })
    (subst (λ o. IsBestWay w ask c.in-Some.identity.0 c.in-Some-service.service.0 (option_map (λ (f : Found). f.route) o)) c.in-Some-2.is c.in_ok-found.ensures.best.1)
    c.if-view.false

pub returns-in_err-found-clause-decides : goal.returns-in_err-found-clause-decides
returns-in_err-found-clause-decides c =
    let w = network c.args.view.now in
    let ask = asked c.args.ask.now in
    handed_on w ask c.from_residual.result c.in_err-found.field-0.0 c.from_residual.ensures.1
    (denied (λ o. IsBestWay w ask c.in-Some.identity.0 c.in-Some-service.service.0 (option_map (λ (f : Found). f.route) o)) w ask c.in-Some.identity.0 c.in-Some-service.service.0 c.in_err-found.field-0.0 (ap (option_map (λ n. n.0)) c.in-Some.is) (ap (option_map (λ n. n.0)) c.in-Some-service.is)
    c.in_err-found.ensures.best)

pub returns-in_default-clause-decides : goal.returns-in_default-clause-decides
returns-in_default-clause-decides c = search rules

pub returns-in_default-service-clause-decides : goal.returns-in_default-service-clause-decides
returns-in_default-service-clause-decides c = search rules

pub returns-in_err-found-clause-memory : goal.returns-in_err-found-clause-memory
returns-in_err-found-clause-memory c = λ wants.
    let w = network c.args.view.now in
    let ask = asked c.args.ask.now in
    let entered : MayBeEntered w ask.ingress c.in-Some.identity.0 c.in-Some-service.service.0 = search rules in
    entered_wants w ask c.in-Some.identity.0 c.in-Some-service.service.0 (ap (option_map (λ n. n.0)) c.in-Some.is) (ap (option_map (λ n. n.0)) c.in-Some-service.is) entered

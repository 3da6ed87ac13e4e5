use Rattle.ctrl_model.specs.Limits.{most_terminator_cost}
use Rattle.std.proofs.Common.{◌≤◌, sym, subst}
use Rattle.std.specs.List.{All}
use Rattle.std.specs.Option.{option_map}
use Rattle.model_laws.proofs.NumberLaws.{Between-none_twice}
use Rattle.circuit_rules.specs.declared.deciding.Found.{Found}
use Rattle.route_choice.specs.declared.choosing.Exit.{Exit}
use Rattle.circuit_rules.specs.Views.{network, asked}
use Rattle.circuit_rules.proofs.RequestLaws.{IsRequest, exits_cheap, ends_entered, ends_left, best_way}
use Rattle.circuit_rules.proofs.deciding.best_route.Goals as goal

pub found_between-requires : goal.found_between-requires
found_between-requires c =
    let w = network c.args.view.now in
    let ask = asked c.args.ask.now in
    let once = Between-none_twice 1 c.args.view.now.terminators.now.terminators.next w.terminators c.next-next.ensures.keeps.ordered in
    let k : IsRequest w ask c.args.identity.0 c.args.service.0 = record { who = c.requires.who; what = c.requires.what; routers = c.requires.routers; once = once } in
    record {
      routers = c.requires.routers;
      ends = record {
        entries = ends_entered w ask c.args.identity.0 c.args.service.0 k c.in_ok-ends.ends c.in_ok-ends.ensures.ends.1;
        exits = ends_left w ask c.args.identity.0 c.args.service.0 k c.in_ok-ends.ends c.in_ok-ends.ensures.ends.1;
        costs = subst (λ os. All (λ (o : Exit). o.cost ≤ most_terminator_cost) os) (sym c.in_ok-ends.ensures.ends.1.1) (exits_cheap w ask c.args.service.0 c.next-next.ensures.keeps.costs c.next-next.ensures.keeps.loads);
      };
    }

pub returns-clause-best : goal.returns-clause-best
returns-clause-best c =
    let w = network c.args.view.now in
    let ask = asked c.args.ask.now in
    let once = Between-none_twice 1 c.args.view.now.terminators.now.terminators.next w.terminators c.next-next.ensures.keeps.ordered in
    let k : IsRequest w ask c.args.identity.0 c.args.service.0 = record { who = c.requires.who; what = c.requires.what; routers = c.requires.routers; once = once } in (
      c.in_ok-ends.ensures.ends.0,
      best_way w ask c.args.identity.0 c.args.service.0 k c.in_ok-ends.ends (option_map (λ (f : Found). f.route) c.in_ok-found.found) c.in_ok-ends.ensures.ends.1 c.in_ok-found.ensures.route,
    )

use Rattle.std.proofs.Common.{◌∙◌, ap, filter}
use Rattle.model_laws.proofs.NumberLaws.{Between-none_twice}
use Rattle.circuit_rules.specs.Views.{network}
use Rattle.policy_advisor.specs.Steps.{counts}
use Rattle.policy_advisor.proofs.OfferedNumbers.{found_counted}
use Rattle.policy_advisor.proofs.offering.counted.Goals as goal

pub returns : goal.returns
returns c =
    let w = network c.args.view.now in
    c.of.ensures ∙ c.in_ok-found.ensures ∙ ap (filter (counts w c.args.service.0 c.args.instance.now)) (c.as_slice.ensures ∙ c.in_ok-numbers.ensures.all)
    ∙ found_counted w c.args.service.0 c.args.instance.now (Between-none_twice 1 c.args.view.now.terminators.now.terminators.next w.terminators c.in_ok-numbers.ensures.keeps.ordered)

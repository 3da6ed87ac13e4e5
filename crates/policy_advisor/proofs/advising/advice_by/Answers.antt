use Rattle.std.proofs.Common.{◌∙◌}
use Rattle.circuit_rules.specs.Views.{network}
use Rattle.policy_advisor.proofs.RuleOrder.{rule-is}
use Rattle.policy_advisor.proofs.advising.advice_by.Goals as goal

pub returns : goal.returns
returns c =
    let entries = c.in_ok-entries.ensures in
    let offers = c.in_ok-offers.ensures in
    let rule = c.rule_of-rule.ensures
    ∙ rule-is (network c.args.view.now) c.args.identity c.args.service c.count_between-dial.result c.in_ok-entries.entries c.in_ok-offers.offers c.count_between-dial.ensures
    entries.common entries.online offers.terminators offers.admissible in
    λ i. record {
      dial = c.count_between-dial.ensures i;
      bind = c.count_between-bind.ensures i;
      common = entries.common i;
      online = entries.online i;
      terminators = offers.terminators i;
      admissible = offers.admissible i;
      policies = c.args.policies;
      rule = rule i;
    }

use Rattle.std.proofs.Common.{sym, ◌∙◌}
use Rattle.circuit_rules.specs.Views.{network}
use Rattle.circuit_rules.proofs.SettledLaws.{settled-from}
use Rattle.circuit_rules.proofs.settling.is_settled.Goals as goal

pub returns : goal.returns
returns c =
    c.none_improves.ensures
    ∙ settled-from (network c.args.view.now) c.args.entry.now c.as_slice-values.result.now c.args.links.now c.as_slice-values.ensures c.requires c.if-values-view.false
    (sym c.value_at.ensures ∙ c.if-value_at-ne0.false)

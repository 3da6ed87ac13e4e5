use Rattle.std.proofs.Common.{◌++◌, codes, ap, ◌∙◌}
use Rattle.serde_json.specs.Written.{compact_text, has_float}
use Rattle.policy_advisor.proofs.PlainReports.{report_plain}
use Rattle.policy_advisor.proofs.reporting.report.Goals as goal

pub returns : goal.returns
returns c =
    c.of.ensures ∙ c.in_ok-push.ensures.items
    ∙ ap (λ t. t ++ codes "\n") (c.in_ok-line.ensures.text (ap has_float c.in_ok-value.ensures ∙ report_plain c.args.entities.now.routers.rows c.args.advice.now) ∙ ap compact_text c.in_ok-value.ensures)

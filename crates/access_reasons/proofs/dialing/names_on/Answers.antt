use Rattle.std.proofs.Common.{Option, Some, sym, ap, ◌∙◌}
use Rattle.ctrl_model.specs.State.{Entity}
use Rattle.policy_advisor.specs.Advice.{dial_marks}
use Rattle.access_reasons.specs.declared.findings.Sides.TheVariants.{Both}
use Rattle.access_reasons.specs.Reasons.{names_with}
use Rattle.access_reasons.proofs.FindingLaws.{no_names-right}
use Rattle.access_reasons.proofs.dialing.names_on.Goals as goal

pub returns-in-None : goal.returns-in-None
returns-in-None c =
    let rows = c.args.policies.now.service_policies.rows in
    c.new.ensures.items
    ∙ sym (ap (λ (t : Option Entity). names_with Both (dial_marks (Some c.args.identity.now) t rows)) c.in-None.is ∙ no_names-right (Some c.args.identity.now) rows)

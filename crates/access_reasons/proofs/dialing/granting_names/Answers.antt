use Rattle.std.proofs.Common.{Option, sym, ap, ◌∙◌}
use Rattle.ctrl_model.specs.State.{Entity}
use Rattle.policy_advisor.specs.Advice.{dial_marks}
use Rattle.access_reasons.specs.declared.findings.Sides.TheVariants.{Both}
use Rattle.access_reasons.specs.Reasons.{names_with}
use Rattle.access_reasons.proofs.FindingLaws.{no_names-left}
use Rattle.access_reasons.proofs.dialing.granting_names.Goals as goal

pub returns-in-None : goal.returns-in-None
returns-in-None c =
    let rows = c.args.policies.now.service_policies.rows in
    c.new.ensures.items
    ∙ sym (ap (λ (e : Option Entity). names_with Both (dial_marks e c.args.service.now rows)) c.in-None.is ∙ no_names-left c.args.service.now rows)

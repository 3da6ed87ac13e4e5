use Rattle.std.proofs.Common.{◌≡◌, IfOk, List, ap, ◌∙◌, subst}
use Rattle.access_reasons.specs.declared.findings.Finding.{Finding}
use Rattle.access_reasons.specs.ReasonLines.{lines_of as reason_lines}
use Rattle.access_reasons.specs.Reasons.{why}
use Rattle.zitilook.proofs.telling.why_in.Goals as goal

pub returns : goal.returns
returns c =
    let s = c.args.core.now.state in
    let found = c.in_ok-findings.ensures s c.stores_of-stores.ensures in
    let names = ap (λ n. why s n c.in_ok-service.service) c.in_ok-identity.ensures ∙ ap (why s c.args.identity.now) c.in_ok-service.ensures in
    subst (λ (fs : List Finding). IfOk c.lines.result (λ t. t ≡ reason_lines fs)) (found ∙ names) c.lines.ensures

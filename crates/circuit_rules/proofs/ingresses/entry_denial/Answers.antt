use Rattle.std.proofs.Common.{◌==◌, ◌∙◌, ap}
use Rattle.circuit_rules.specs.Views.{network, wanted_of}
use Rattle.circuit_rules.proofs.EntryLaws.{denied_first}
use Rattle.circuit_rules.proofs.ingresses.entry_denial.Goals as goal

pub returns : goal.returns
returns c =
    c.first_denial.ensures
    ∙ denied_first (network c.args.view.now) (wanted_of c.args.ingress) c.args.identity.0 c.args.service.0 _ _ _ _
    c.is_absent-absent.ensures (ap (λ n. n == 0) c.count-count.ensures) c.has_shared-shared.ensures c.has_shared-connected.ensures

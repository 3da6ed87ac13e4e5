use Rattle.std.proofs.Common.{subst}
use Rattle.grant_denorm.specs.PairCounts.{Raises}
use Rattle.access_reasons.proofs.PathLaws.{raised}
use Rattle.access_reasons.proofs.searching.granting.Goals as goal

pub returns : goal.returns
returns c =
    raised c.raise.new.self c.args.identity c.args.service
    (subst (λ old. Raises old c.raise.new.self c.args.identity c.args.service) c.new-counted.ensures c.in_ok-raise.ensures.ok)

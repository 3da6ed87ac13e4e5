use Rattle.std.proofs.Common.{ap, ◌∙◌}
use Rattle.std.proofs.lemmas.Result.{IfOk-weaker}
use Rattle.access_reasons.specs.Reasons.{Facts, dialers_in}
use Rattle.access_reasons.proofs.StoreLaws.{facts-are}
use Rattle.access_reasons.proofs.dialing.who.Goals as goal

pub returns : goal.returns
returns c =
    IfOk-weaker c.dialers_in.result _ _ (λ fs is s of_s.
    is ∙ ap (λ (f : Facts). dialers_in f c.args.service.now) (facts-are c.args.stores.now s of_s)) c.dialers_in.ensures

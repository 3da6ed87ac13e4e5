use Rattle.std.proofs.Common.{◌∙◌, ap}
use Rattle.grant_denorm.proofs.RowSteps.{not_counted}
use Rattle.grant_denorm.proofs.rows.Row.lower.Goals as goal

pub returns-in-Err-clause-lowers : goal.returns-in-Err-clause-lowers
returns-in-Err-clause-lowers c = absurd (not_counted c.as_slice.result.now c.args.self.now.1 (c.as_slice.ensures.value ∙ ap (λ r. r.1) c.self.view_is) c.args.right c.in-Err.field-0 c.in-Err.ensures.absent c.requires.there)

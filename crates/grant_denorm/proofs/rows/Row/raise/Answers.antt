use Rattle.std.proofs.Common.{◌∙◌, ap}
use Rattle.grant_denorm.proofs.RowSteps.{not_counted}
use Rattle.grant_denorm.proofs.rows.Row.raise.Goals as goal

pub returns-then-full-clause-there : goal.returns-then-full-clause-there
returns-then-full-clause-there c = λ there. absurd (not_counted c.as_slice.result.now c.args.self.now.1 (c.as_slice.ensures.value ∙ ap (λ r. r.1) c.self.view_is) c.args.right c.in-Err.at c.in-Err.ensures.absent there)

pub returns-in_err-put_at-in-Err-clause-there : goal.returns-in_err-put_at-in-Err-clause-there
returns-in_err-put_at-in-Err-clause-there c = λ there. absurd (not_counted c.as_slice.result.now c.args.self.now.1 (c.as_slice.ensures.value ∙ ap (λ r. r.1) c.self.view_is) c.args.right c.in-Err.at c.in-Err.ensures.absent there)

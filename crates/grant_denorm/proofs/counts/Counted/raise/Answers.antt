use Rattle.grant_denorm.proofs.RowSteps.{not_paired}
use Rattle.grant_denorm.proofs.counts.Counted.raise.Goals as goal

pub returns-in_default-clause-there : goal.returns-in_default-clause-there
returns-in_default-clause-there c = λ there. absurd (not_paired c.self.inside.rows.items c.as_slice.result.now c.args.self.now c.self.invariant.0 c.as_slice.ensures.value c.self.view_is c.args.a c.args.b c.in-Err.at c.in-Err.ensures.absent there)

pub returns-in_err-put_row-in-Err-clause-there : goal.returns-in_err-put_row-in-Err-clause-there
returns-in_err-put_row-in-Err-clause-there c = λ there. absurd (not_paired c.self.inside.rows.items c.as_slice.result.now c.args.self.now c.self.invariant.0 c.as_slice.ensures.value c.self.view_is c.args.a c.args.b c.in-Err.at c.in-Err.ensures.absent there)

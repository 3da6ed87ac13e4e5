use Rattle.grant_denorm.proofs.RowSteps.{not_paired}
use Rattle.grant_denorm.proofs.counts.Counted.lower.Goals as goal

pub returns-in_default : goal.returns-in_default
returns-in_default c = absurd (not_paired c.self.inside.rows.items c.as_slice.result.now c.args.self.now c.self.invariant.0 c.as_slice.ensures.value c.self.view_is c.args.a c.args.b c.in_default.field-0 c.in_default.ensures.absent c.requires)

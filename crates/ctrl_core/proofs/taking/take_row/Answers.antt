use Rattle.ctrl_core.proofs.TakenLaws.{is_claim}
use Rattle.ctrl_core.proofs.taking.take_row.Goals as goal

pub take_claim-requires-clause-form : goal.take_claim-requires-clause-form
take_claim-requires-clause-form c = is_claim c.args.row.now c.in-Intercept.service c.in-Intercept.intercept c.in-Intercept.is c.requires.form

use Rattle.std.proofs.lemmas.Result.{IfOk-weaker}
use Rattle.zitilook.proofs.opening.rows_opened.Goals as goal

pub returns-clause-state : goal.returns-clause-state
returns-clause-state c = IfOk-weaker c.rows_of.result _ _ (λ rows same. same c.args.core.state c.requires.those) c.rows_of.ensures.state

pub returns-clause-rows : goal.returns-clause-rows
returns-clause-rows c = IfOk-weaker c.rows_of.result _ _ (λ rows are. are c.args.core.state c.requires.those) c.rows_of.ensures.rows

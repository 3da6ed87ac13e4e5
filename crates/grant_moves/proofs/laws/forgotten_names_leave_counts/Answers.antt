use Rattle.grant_moves.proofs.ForgottenNames.{forget_left_leaves, forget_right_leaves}
use Rattle.grant_moves.proofs.laws.forgotten_names_leave_counts.Goals as goal

pub returns-clause-left : goal.returns-clause-left
returns-clause-left c = forget_left_leaves

pub returns-clause-right : goal.returns-clause-right
returns-clause-right c = forget_right_leaves

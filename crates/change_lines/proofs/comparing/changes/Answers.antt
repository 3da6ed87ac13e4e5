use Rattle.std.proofs.Common.{◌∙◌}
use Rattle.change_lines.proofs.RowStates.{changes_of_rows, form_of_rows}
use Rattle.change_lines.proofs.comparing.changes.Goals as goal

pub lines_between-requires-clause-left : goal.lines_between-requires-clause-left
lines_between-requires-clause-left c = form_of_rows c.requires.left.0 c.requires.left.1 c.args.left.now c.requires.left.2

pub lines_between-requires-clause-right : goal.lines_between-requires-clause-right
lines_between-requires-clause-right c = form_of_rows c.requires.right.0 c.requires.right.1 c.args.right.now c.requires.right.2

pub returns : goal.returns
returns c = λ f g s t left right. c.of.ensures ∙ c.in_ok-text.ensures ∙ changes_of_rows f g s t c.args.left.now c.args.right.now left right

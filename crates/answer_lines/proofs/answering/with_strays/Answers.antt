use Rattle.std.proofs.Common.{sym, ap, ◌∙◌}
use Rattle.answer_lines.specs.AnswerTurns.{ended}
use Rattle.answer_lines.proofs.answering.with_strays.Goals as goal

pub returns-in-Some : goal.returns-in-Some
returns-in-Some c = c.at_fault.ensures ∙ ap (λ reply. ended c.args.out.items c.args.ok c.args.left.told.items reply) (sym c.in-Some.is)

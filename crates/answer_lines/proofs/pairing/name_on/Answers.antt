use Rattle.std.proofs.Common.{◌∙◌}
use Rattle.answer_lines.proofs.RequestLaws.{named_behind, named_alone}
use Rattle.answer_lines.proofs.pairing.name_on.Goals as goal

pub returns-in-Some : goal.returns-in-Some
returns-in-Some c = λ said is own. c.cut_word.ensures.behind ∙ named_behind c.args.line.now said c.in-Some.field-0 is (own ∙ c.in-Some.is)

pub returns-in-None : goal.returns-in-None
returns-in-None c = λ said is own. named_alone c.args.line.now said is (own ∙ c.in-None.is)

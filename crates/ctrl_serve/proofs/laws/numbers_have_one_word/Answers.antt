use Rattle.ctrl_serve.proofs.NumberWords.{text_of_number, number_of_text}
use Rattle.ctrl_serve.proofs.laws.numbers_have_one_word.Goals as goal

pub returns-clause-text : goal.returns-clause-text
returns-clause-text c = λ bound word number e. (text_of_number bound word number e).0

pub returns-clause-below : goal.returns-clause-below
returns-clause-below c = λ bound word number e. (text_of_number bound word number e).1

pub returns-clause-number : goal.returns-clause-number
returns-clause-number c = number_of_text

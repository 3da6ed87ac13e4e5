use Rattle.answer_lines.proofs.SequenceLaws.{same_sequences}
use Rattle.answer_lines.proofs.laws.requests_are_those_of_encode.Goals as goal

pub returns : goal.returns
returns c = same_sequences

use Rattle.frame_lines.specs.TextLines.{lines_of}
use Rattle.frame_lines.proofs.TurnLaws.{each_line, no_fault}
use Rattle.frame_lines.proofs.laws.faultless_where_each_line_says.Goals as goal

pub returns : goal.returns
returns c = λ text. (each_line (lines_of text) 1, no_fault (lines_of text) 1)

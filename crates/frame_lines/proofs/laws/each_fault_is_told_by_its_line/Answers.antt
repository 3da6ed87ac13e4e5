use Rattle.frame_lines.specs.TextLines.{lines_of}
use Rattle.frame_lines.proofs.CheckLaws.{first_from, none_told, told_none, faults_joined}
use Rattle.frame_lines.proofs.laws.each_fault_is_told_by_its_line.Goals as goal

pub returns : goal.returns
returns c = record {
  none = λ text. (none_told text, told_none text);
  first = λ text. first_from (lines_of text) 1;
  alone = faults_joined;
}

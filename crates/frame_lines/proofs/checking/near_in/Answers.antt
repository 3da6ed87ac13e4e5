use Rattle.std.proofs.Common.{ap, ◌∙◌}
use Rattle.frame_lines.specs.LineWords.{first_word}
use Rattle.frame_lines.specs.NearNames.{near_name}
use Rattle.frame_lines.proofs.checking.near_in.Goals as goal

pub returns : goal.returns
returns c = c.near_name.ensures ∙ ap near_name (c.cut_word.ensures.word ∙ ap first_word c.name_on.ensures.part)

use Rattle.std.proofs.Common.{ap, sym, ◌∙◌, length, arith}
use Rattle.std.proofs.lemmas.List.{take_all, drop_all}
use Rattle.frame_lines.specs.LineWords.{first_word, behind_word}
use Rattle.frame_lines.proofs.CutLaws.{word_alone, word_cut}
use Rattle.frame_lines.proofs.cutting.cut_word.Goals as goal

pub returns-in-Some-clause-word : goal.returns-in-Some-clause-word
returns-in-Some-clause-word c =
    let cut = c.in-Some.ensures in
    sym (ap first_word cut.text ∙ (word_cut c.in-Some.parts.0.now c.in-Some.parts.1.now cut.first).0)

pub returns-in-Some-clause-behind : goal.returns-in-Some-clause-behind
returns-in-Some-clause-behind c =
    let cut = c.in-Some.ensures in
    sym (ap behind_word cut.text ∙ (word_cut c.in-Some.parts.0.now c.in-Some.parts.1.now cut.first).1)

pub returns-in-None-clause-word : goal.returns-in-None-clause-word
returns-in-None-clause-word c =
    let line = c.args.line.now in
    c.split_at.ensures.front ∙ take_all (length line) line (omega arith) ∙ sym (word_alone line c.in-None.ensures).0

pub returns-in-None-clause-behind : goal.returns-in-None-clause-behind
returns-in-None-clause-behind c =
    let line = c.args.line.now in
    c.split_at.ensures.back ∙ drop_all (length line) line (omega arith) ∙ sym (word_alone line c.in-None.ensures).1

use Rattle.std.proofs.Common.{List, ℕ, ap, sym, ◌∙◌, ◌∷◌}
use Rattle.frame_lines.specs.TextLines.{lines_of}
use Rattle.frame_lines.proofs.CutLaws.{line_cut, line_whole}
use Rattle.frame_lines.proofs.cutting.cut_line.Goals as goal

pub returns-in-Some-clause-lines : goal.returns-in-Some-clause-lines
returns-in-Some-clause-lines c =
    let cut = c.in-Some.ensures in
    ap lines_of cut.text ∙ line_cut c.in-Some.line.now c.in-Some.rest.now cut.first
    ∙ ap (λ (line : List ℕ). line ∷ lines_of c.in-Some.rest.now) (sym c.without_return.ensures)

pub returns-in-None-clause-lines : goal.returns-in-None-clause-lines
returns-in-None-clause-lines c =
    line_whole c.args.text.now c.split_at.result.0.now c.split_at.result.1.now c.requires c.in-None.ensures c.split_at.ensures.front c.split_at.ensures.back

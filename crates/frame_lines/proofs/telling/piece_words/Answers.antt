use Rattle.std.proofs.Common.{ℕ, List, ◌++◌, ap, codes, decimal, ◌∙◌}
use Rattle.std.proofs.lemmas.Result.{IfOk-weaker}
use Rattle.frame_lines.proofs.telling.piece_words.Goals as goal

pub returns : goal.returns
returns c = IfOk-weaker c.format.result _ _ (λ words h. h ∙ ap (λ (sort : List ℕ). text sort c.len-len.result) c.sort_words-sort.ensures ∙ ap (text _) c.len-len.ensures) c.format.ensures.ok
  where
    text : List ℕ → ℕ → List ℕ
    text sort len =
        decimal c.args.frame.now.sequence
        ++ (sort ++ (decimal c.args.piece.0 ++ (codes " piece=" ++ (decimal c.args.piece.1.0 ++ (codes " count=" ++ (decimal c.args.piece.1.1 ++ (codes " bytes=" ++ decimal len)))))))

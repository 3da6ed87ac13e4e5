use Rattle.std.proofs.Common.{ℕ, List, ◌++◌, codes, ap, ◌∙◌, append_assoc}
use Rattle.answer_lines.specs.AnswerLines.{reply_line}
use Rattle.answer_lines.proofs.pairing.put_stray.Goals as goal

pub returns : goal.returns
returns c =
    let words : List ℕ = reply_line c.args.reply.now in
    c.in_ok-put_reply.ensures ∙ ap (λ (b : List ℕ). b ++ words) c.in_ok-extend_from_slice.ensures.items
    ∙ append_assoc c.args.out.now.items (codes "no request -> ") words

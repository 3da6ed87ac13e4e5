use Rattle.std.proofs.Common.{List, ℕ, decimal, codes, ◌++◌, ap, ◌∙◌}
use Rattle.trace_lines.proofs.ReplyLaws.{puts_reply}
use Rattle.trace_lines.proofs.telling.put_reply.Goals as goal

pub returns-in-Ok : goal.returns-in-Ok
returns-in-Ok c =
    puts_reply c.args.session c.args.frame.now c.args.out.now.items c.put_with_session.new.out.items c.new-line.result.items c.put_line.new.out.items c.in_ok-put.put _
    c.new-line.ensures.items c.in_ok-put.ensures c.in-Ok.is
    (c.in_ok-put_with_session-in-Ok.ensures ∙ ap (λ (l : List ℕ). c.args.out.now.items ++ (decimal c.args.session ++ (codes " " ++ l))) c.as_slice.ensures.value)

use Rattle.std.proofs.Common.{decimal, sym, ◌∙◌}
use Rattle.std.proofs.lemmas.Result.{IfOk-weaker}
use Rattle.run_notes.proofs.NoteLaws.{trace_text, some_trace_rest}
use Rattle.run_notes.proofs.lines.trace_rest_line.Goals as goal

pub returns : goal.returns
returns c =
    let some = c.if-left-eq0.false in
    IfOk-weaker c.format.result _ _ (λ line h. h ∙ trace_text (decimal c.args.left) ∙ sym (some_trace_rest c.args.left some)) c.format.ensures.ok

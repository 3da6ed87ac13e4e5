use Rattle.std.proofs.Common.{decimal, sym, ◌∙◌}
use Rattle.std.proofs.lemmas.Result.{IfOk-weaker}
use Rattle.run_notes.proofs.NoteLaws.{rest_text, some_rest}
use Rattle.run_notes.proofs.lines.session_rest_line.Goals as goal

pub returns : goal.returns
returns c =
    let some = c.if-left-eq0.false in
    IfOk-weaker c.format.result _ _ (λ line h. h ∙ rest_text (decimal c.args.session) (decimal c.args.left) ∙ sym (some_rest c.args.session c.args.left some)) c.format.ensures.ok

use Rattle.std.proofs.Common.{true, false, sym, ◌∙◌}
use Rattle.frame_lines.proofs.TellLaws.{plain_body, no_text, text}
use Rattle.frame_lines.proofs.telling.body_cause.Goals as goal

pub returns-in-Ok : goal.returns-in-Ok
returns-in-Ok c =
    let body = c.args.body.now in
    sym (plain_body body true (sym c.has_newline.ensures ∙ c.if-has_newline.false) (sym c.ends_in_return.ensures ∙ c.if-ends_in_return.false) (text body c.in-Ok.ensures.cases.1))

pub returns-in-Err : goal.returns-in-Err
returns-in-Err c =
    let body = c.args.body.now in
    sym (plain_body body false (sym c.has_newline.ensures ∙ c.if-has_newline.false) (sym c.ends_in_return.ensures ∙ c.if-ends_in_return.false) (no_text body c.in-Err.ensures.cases.0))

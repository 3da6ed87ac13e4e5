use Rattle.std.proofs.Common.{◌≡◌, Ok, refl, sym, ◌∙◌}
use Rattle.frame_lines.specs.LineReading.{said_by}
use Rattle.answer_lines.proofs.RequestLaws.{goes_passed, goes_answered, goes_not}
use Rattle.answer_lines.proofs.pairing.take_line.Goals as goal

pub returns-then-passes : goal.returns-then-passes
returns-then-passes c =
    goes_passed c.args.number c.args.next c.args.line.now c.args.out.now.items c.args.replies.now.items (sym c.passes.ensures ∙ c.if-passes.true)

pub returns-in_ok-answer_request-in-Ok : goal.returns-in_ok-answer_request-in-Ok
returns-in_ok-answer_request-in-Ok c =
    let is : said_by c.args.line.now ≡ Ok c.in-Ok.said = sym c.in_ok-said.ensures.said ∙ c.in-Ok.is in
    goes_answered c.args.number c.args.next c.args.line.now c.args.out.now.items c.answer_request.new.out.items c.args.replies.now.items
    c.answer_request.new.replies.items c.in-Ok.said c.in_ok-answer_request-in-Ok.field-0 (sym c.passes.ensures ∙ c.if-passes.false) is
    (c.in_ok-answer_request-in-Ok.ensures c.in-Ok.said is refl)

pub returns-in-Err : goal.returns-in-Err
returns-in-Err c =
    goes_not c.args.number c.args.line.now c.in-Err.cause (sym c.passes.ensures ∙ c.if-passes.false) (sym c.in_ok-said.ensures.said ∙ c.in-Err.is)

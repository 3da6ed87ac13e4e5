use Rattle.std.proofs.Common.{◌≡◌, refl, sym, ap, ◌∙◌, unwrap_or}
use Rattle.frame_lines.specs.TextReading.{frame_of}
use Rattle.answer_lines.proofs.RequestLaws.{puts}
use Rattle.answer_lines.proofs.pairing.answer_request.Goals as goal

pub returns : goal.returns
returns c = λ said is own.
    let sequence : c.unwrap_or-own.result ≡ (frame_of c.args.next said).sequence = c.unwrap_or-own.ensures ∙ ap (λ s. unwrap_or s c.args.next) (sym own) in
    puts c.args.number c.args.next c.args.line.now said c.unwrap_or-own.result c.name_on.result.now c.args.out.now.items c.put_answer.new.out.items
    c.args.replies.now.items c.take_reply-reply.new.replies.items c.take_reply-reply.result _ sequence (c.name_on.ensures said is own)
    c.take_reply-reply.ensures.reply c.take_reply-reply.ensures.left (c.in_ok-put_answer.ensures c.unwrap_or-own.result) c.has_success.ensures refl

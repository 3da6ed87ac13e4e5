use Rattle.std.proofs.Common.{◌≡◌, false, [], None, Some, sym, ap, ◌∙◌, arith}
use Rattle.answer_lines.specs.declared.replies.ReplyLine.{ReplyLine}
use Rattle.answer_lines.proofs.PlaceLaws.{none_to, found_to}
use Rattle.answer_lines.proofs.finding.take_reply.Goals as goal

pub returns-in-Some : goal.returns-in-Some
returns-in-Some c =
    let any : ReplyLine = record { sequence = 0; success = false; words = [] } in
    let all = c.args.replies.now in
    let at = c.in-Some.ensures in
    let found = found_to c.args.sequence all.items c.in-Some.place any at in
    let same = all.ok.0 in
    let low = c.remove.ensures.succeeds any (omega (arith, at.within, same)) in
    record {
      reply = low ∙ sym found.0;
      left = (rw low at c.remove.ensures.items) ∙ sym found.1;
    }

pub returns-in-None : goal.returns-in-None
returns-in-None c =
    let none = none_to c.args.sequence c.args.replies.now.items c.in-None.ensures in
    record { reply = sym none.0; left = sym none.1 }

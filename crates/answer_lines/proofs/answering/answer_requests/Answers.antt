use Rattle.std.proofs.Common.{ℕ, List, sym, subst}
use Rattle.frame_lines.specs.TextLines.{lines_of}
use Rattle.answer_lines.specs.AnswerParts.{before_mark}
use Rattle.answer_lines.specs.AnswerTurns.{IsAnswered}
use Rattle.answer_lines.proofs.EndLaws.{ended_badly, ends_well, took_all, took_none}
use Rattle.answer_lines.proofs.answering.answer_requests.Goals as goal

pub returns-in-Ok : goal.returns-in-Ok
returns-in-Ok c =
    let lines : List (List ℕ) = before_mark (lines_of c.args.text.now) in
    let all = took_all lines c.new-out.result.items c.answer_lines.new.out.items c.args.replies.told.items c.answer_lines.new.replies.items _ c.in-Ok.ok c.in-Ok.is
    c.in_ok-ok.ensures in
    ends_well lines c.new-out.result.items c.answer_lines.new.out.items c.args.replies.told.items c.answer_lines.new.replies.items c.in-Ok.ok c.args.replies.no_reply
    c.with_strays.result c.new-out.ensures.items all c.with_strays.ensures

pub returns-in-Err : goal.returns-in-Err
returns-in-Err c =
    let lines : List (List ℕ) = before_mark (lines_of c.args.text.now) in
    let fault = took_none lines c.new-out.result.items c.answer_lines.new.out.items c.args.replies.told.items c.answer_lines.new.replies.items _ c.in-Err.fault c.in-Err.is
    c.in_ok-ok.ensures in
    subst (λ a. IsAnswered lines c.args.replies.told.items c.args.replies.no_reply a) (sym c.at_fault.ensures)
    (ended_badly lines c.args.replies.told.items c.args.replies.no_reply c.in-Err.fault fault)

use Rattle.std.proofs.Common.{◌≡◌, ℕ, List, ap, ◌∙◌}
use Rattle.std.proofs.lemmas.Result.{IfOk-weaker}
use Rattle.frame_lines.specs.TextLines.{lines_of}
use Rattle.answer_lines.specs.declared.answering.Answered.{Answered}
use Rattle.answer_lines.specs.AnswerParts.{before_mark, behind_mark, number_behind}
use Rattle.answer_lines.specs.ReplyLines.{replies_from, no_reply_from}
use Rattle.answer_lines.specs.AnswerLines.{replies_in, answers_told, is_refused, answers_fault}
use Rattle.answer_lines.specs.AnswerTurns.{IsAnswered}
use Rattle.answer_lines.proofs.EndLaws.{of_text}
use Rattle.answer_lines.proofs.answering.answers.Goals as goal

pub returns : goal.returns
returns c =
    let text = c.args.text.now in
    let read = c.in_ok-replies.replies in
    let lines = c.behind_mark-first.ensures.lines in
    let told : read.told.items ≡ replies_in text = c.in_ok-replies.ensures.told ∙ ap replies_from lines in
    let none : read.no_reply ≡ no_reply_from (behind_mark (lines_of text)) (number_behind (lines_of text)) =
    c.in_ok-replies.ensures.no_reply ∙ ap (λ (ls : List (List ℕ)). no_reply_from ls c.behind_mark-first.result.1) lines
    ∙ ap (λ (n : ℕ). no_reply_from (behind_mark (lines_of text)) n) c.behind_mark-first.ensures.number in
    let Is : Answered → Type 0 = λ a. IsAnswered (before_mark (lines_of text)) read.told.items read.no_reply a in
    record {
      told = IfOk-weaker c.answer_requests.result Is (λ a. a.told ≡ answers_told text)
          (λ a is. (of_text text read.told.items read.no_reply a told none is).told) c.answer_requests.ensures;
      refused = IfOk-weaker c.answer_requests.result Is (λ a. a.refused ≡ is_refused text)
          (λ a is. (of_text text read.told.items read.no_reply a told none is).refused) c.answer_requests.ensures;
      fault = IfOk-weaker c.answer_requests.result Is (λ a. a.fault ≡ answers_fault text)
          (λ a is. (of_text text read.told.items read.no_reply a told none is).fault) c.answer_requests.ensures;
    }

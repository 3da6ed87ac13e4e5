-- The answers to a text, of its parts.
use Rattle.std.proofs.Common.{◌≡◌, ℕ, Bool, true, false, List, [], None, Some, Ok, Err, IfOk, refl, sym, ap, subst, ◌∙◌}
use Rattle.std.specs.Prelude.{not, ◌&&◌, ◌||◌}
use Rattle.std.specs.declared.option.Option.{Option}
use Rattle.std.specs.declared.result.Result.{Result}
use Rattle.std.specs.declared.alloc.AllocError.{AllocError}
use Rattle.std.proofs.lemmas.Result.{IfOk-weaker}
use Rattle.frame_lines.specs.declared.lines.LineFault.{LineFault}
use Rattle.frame_lines.specs.TextLines.{lines_of}
use Rattle.frame_lines.specs.TextReading.{fault_from}
use Rattle.answer_lines.specs.declared.replies.ReplyLine.{ReplyLine}
use Rattle.answer_lines.specs.declared.answering.Answered.{Answered}
use Rattle.answer_lines.specs.declared.answering.AnswerFault.TheVariants.{NoRequest}
use Rattle.answer_lines.specs.AnswerLines.{answers_for, are_none, are_ok, requests_from, replies_in, fault_with, answers_fault, told_unless, refused_unless, answers_told, is_refused}
use Rattle.answer_lines.specs.AnswerParts.{before_mark, behind_mark, number_behind}
use Rattle.answer_lines.specs.ReplyLines.{no_reply_from}
use Rattle.answer_lines.specs.AnswerTurns.{AnswersAll, TakesLines, IsAnswered, ended}

not_both : (a b : Bool) → (not a || not b) ≡ not (a && b)
not_both true b = refl
not_both false b = refl

-- its requests were answered
pub ended_well : (lines : List (List ℕ)) (out : List ℕ) (replies left : List ReplyLine) (ok : Bool) (reply : Option ℕ) → AnswersAll lines [] out replies left ok
    → IsAnswered lines replies reply (ended out ok left reply)
ended_well lines out replies left ok None all = record {
  told = all.told ∙ ap (λ (f : Option LineFault). told_unless (fault_with f None) (answers_for (requests_from lines 1 1) replies)) (sym all.faultless);
  refused =
      not_both ok (are_none left) ∙ ap not all.all_ok
      ∙ ap (λ (f : Option LineFault). refused_unless (fault_with f None) (not (are_ok (requests_from lines 1 1) replies))) (sym all.faultless);
  fault = ap (λ (f : Option LineFault). fault_with f None) (sym all.faultless);
}
ended_well lines out replies left ok (Some number) all = record {
  told = ap (λ (f : Option LineFault). told_unless (fault_with f (Some number)) (answers_for (requests_from lines 1 1) replies)) (sym all.faultless);
  refused = ap (λ (f : Option LineFault). refused_unless (fault_with f (Some number)) (not (are_ok (requests_from lines 1 1) replies))) (sym all.faultless);
  fault = ap (λ (f : Option LineFault). fault_with f (Some number)) (sym all.faultless);
}

-- one of them is at fault
pub ended_badly : (lines : List (List ℕ)) (replies : List ReplyLine) (reply : Option ℕ) (fault : LineFault) → fault_from lines 1 ≡ Some fault
    → IsAnswered lines replies reply (record { told = []; refused = false; fault = Some (NoRequest fault) })
ended_badly lines replies reply fault is = record {
  told = ap (λ (f : Option LineFault). told_unless (fault_with f reply) (answers_for (requests_from lines 1 1) replies)) (sym is);
  refused = ap (λ (f : Option LineFault). refused_unless (fault_with f reply) (not (are_ok (requests_from lines 1 1) replies))) (sym is);
  fault = ap (λ (f : Option LineFault). fault_with f reply) (sym is);
}

-- what the answering of lines ended with
pub took_all : (lines : List (List ℕ)) (before now : List ℕ) (replies left : List ReplyLine) (r : Result Bool LineFault) (ok : Bool) → r ≡ Ok ok
    → TakesLines lines before now replies left r → AnswersAll lines before now replies left ok
took_all lines before now replies left r ok is takes = subst (λ (x : Result Bool LineFault). TakesLines lines before now replies left x) is takes

pub took_none : (lines : List (List ℕ)) (before now : List ℕ) (replies left : List ReplyLine) (r : Result Bool LineFault) (fault : LineFault) → r ≡ Err fault
    → TakesLines lines before now replies left r → fault_from lines 1 ≡ Some fault
took_none lines before now replies left r fault is takes = subst (λ (x : Result Bool LineFault). TakesLines lines before now replies left x) is takes

-- a text whose requests were answered from nothing on
pub ends_well : (lines : List (List ℕ)) (before out : List ℕ) (replies left : List ReplyLine) (ok : Bool) (reply : Option ℕ) (made : Result Answered AllocError) → before ≡ []
    → AnswersAll lines before out replies left ok → IfOk made (λ a. a ≡ ended out ok left reply) → IfOk made (λ a. IsAnswered lines replies reply a)
ends_well lines before out replies left ok reply made none all =
    let from_none : AnswersAll lines [] out replies left ok = subst (λ (b : List ℕ). AnswersAll lines b out replies left ok) none all in
    IfOk-weaker made (λ a. a ≡ ended out ok left reply) (λ a. IsAnswered lines replies reply a)
    (λ a is. subst (λ (x : Answered). IsAnswered lines replies reply x) (sym is) (ended_well lines out replies left ok reply from_none))

-- what a text is answered, once its replies were read
pub record IsOfText (text : List ℕ) (a : Answered) : Type 0 where
  pub told : a.told ≡ answers_told text
  pub refused : a.refused ≡ is_refused text
  pub fault : a.fault ≡ answers_fault text

pub of_text : (text : List ℕ) (replies : List ReplyLine) (none : Option ℕ) (a : Answered) → replies ≡ replies_in text
    → none ≡ no_reply_from (behind_mark (lines_of text)) (number_behind (lines_of text)) → IsAnswered (before_mark (lines_of text)) replies none a → IsOfText text a
of_text text replies none a read is answered =
    let lines : List (List ℕ) = before_mark (lines_of text) in
    record {
      told =
          answered.told ∙ ap (λ (rs : List ReplyLine). told_unless (fault_with (fault_from lines 1) none) (answers_for (requests_from lines 1 1) rs)) read
          ∙ ap (λ (n : Option ℕ). told_unless (fault_with (fault_from lines 1) n) (answers_for (requests_from lines 1 1) (replies_in text))) is;
      refused =
          answered.refused ∙ ap (λ (rs : List ReplyLine). refused_unless (fault_with (fault_from lines 1) none) (not (are_ok (requests_from lines 1 1) rs))) read
          ∙ ap (λ (n : Option ℕ). refused_unless (fault_with (fault_from lines 1) n) (not (are_ok (requests_from lines 1 1) (replies_in text)))) is;
      fault = answered.fault ∙ ap (λ (n : Option ℕ). fault_with (fault_from lines 1) n) is;
    }

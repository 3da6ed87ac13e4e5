-- What one line does to what was put down and to the replies that are left. Only private contracts cite these.
use Rattle.std.specs.Prelude.{◌≡◌, ℕ, ◌+◌, Bool, false, not, ◌&&◌, ◌||◌, List, [], ◌∷◌, ◌++◌, None, Some, Ok, Err}
use Rattle.std.specs.declared.option.Option.{Option}
use Rattle.std.specs.declared.result.Result.{Result}
use Rattle.std.specs.List.{flat_map}
use Rattle.frame_lines.specs.declared.lines.LineCause.{LineCause}
use Rattle.frame_lines.specs.declared.lines.LineFault.{LineFault}
use Rattle.frame_lines.specs.TextReading.{next_after, fault_from}
use Rattle.answer_lines.specs.declared.replies.ReplyLine.{ReplyLine}
use Rattle.answer_lines.specs.declared.replies.NoReply.{NoReply}
use Rattle.answer_lines.specs.declared.pairing.Turn.{Turn}
use Rattle.answer_lines.specs.declared.answering.Answered.{Answered}
use Rattle.answer_lines.specs.declared.answering.AnswerFault.TheVariants as because
use Rattle.answer_lines.specs.ReplyLines.{replies_from, no_reply_from}
use Rattle.answer_lines.specs.AnswerLines.{Request, requests_from, reply_to, without_reply, has_success, answer_line, stray_line, answers_for, are_none, are_ok, fault_with, told_unless, refused_unless}

-- ---- replies

-- The line passes, or its reply was put down: what was put down and the replies of the lines behind are what was there and the replies of all.
pub record ReadsReply (line : List ℕ) (before now : List ReplyLine) : Type 0 where
  pub told : (lines : List (List ℕ)) → now ++ replies_from lines ≡ before ++ replies_from (line ∷ lines)
  pub fault : (lines : List (List ℕ)) (number : ℕ) → no_reply_from lines (number + 1) ≡ no_reply_from (line ∷ lines) number

-- The line tells no reply, and nothing was put down.
pub record ReadsNone (line : List ℕ) (before now : List ReplyLine) : Type 0 where
  pub told : (lines : List (List ℕ)) → now ≡ before ++ replies_from (line ∷ lines)
  pub fault : (lines : List (List ℕ)) (number : ℕ) → no_reply_from (line ∷ lines) number ≡ Some number

-- A turn over a line of replies.
abbrev pub TakesReply : List ℕ → List ReplyLine → List ReplyLine → Result (Unit {0}) NoReply → Type 0
TakesReply line before now (Ok _) = ReadsReply line before now
TakesReply line before now (Err none) = ReadsNone line before now

-- ---- requests

-- A request was answered with the first reply to it that was left, which was taken away.
pub record PutsRequest (request : Request) (before now : List ℕ) (replies left : List ReplyLine) (turn : Turn) : Type 0 where
  pub put : now ≡ before ++ answer_line request (reply_to request.sequence replies)
  pub left_over : left ≡ without_reply request.sequence replies
  pub ok : turn.ok ≡ has_success (reply_to request.sequence replies)
  pub next : turn.next ≡ next_after request.sequence

-- The line has no fault: what is put down, and what the lines behind give with the replies that are left, is what the line and they gave.
pub record GoesOn (number next : ℕ) (line before now : List ℕ) (replies left : List ReplyLine) (turn : Turn) : Type 0 where
  pub told : (lines : List (List ℕ))
      → now ++ answers_for (requests_from lines (number + 1) turn.next) left ≡ before ++ answers_for (requests_from (line ∷ lines) number next) replies
  pub ok : (lines : List (List ℕ)) → (turn.ok && are_ok (requests_from lines (number + 1) turn.next) left) ≡ are_ok (requests_from (line ∷ lines) number next) replies
  pub fault : (lines : List (List ℕ)) → fault_from lines (number + 1) ≡ fault_from (line ∷ lines) number

-- A turn over a line: it goes on, or the line says no frame.
abbrev pub TakesLine : ℕ → ℕ → List ℕ → List ℕ → List ℕ → List ReplyLine → List ReplyLine → Result Turn LineCause → Type 0
TakesLine number next line before now replies left (Ok turn) = GoesOn number next line before now replies left turn
TakesLine number next line before now replies left (Err cause) =
    (lines : List (List ℕ)) → fault_from (line ∷ lines) number ≡ Some (record { line = number; cause = cause })

-- All lines were answered so.
pub record AnswersAll (lines : List (List ℕ)) (before now : List ℕ) (replies left : List ReplyLine) (ok : Bool) : Type 0 where
  pub told : now ++ flat_map stray_line left ≡ before ++ answers_for (requests_from lines 1 1) replies
  pub all_ok : (ok && are_none left) ≡ are_ok (requests_from lines 1 1) replies
  pub faultless : fault_from lines 1 ≡ None

-- All lines were answered, or one says no frame.
abbrev pub TakesLines : List (List ℕ) → List ℕ → List ℕ → List ReplyLine → List ReplyLine → Result Bool LineFault → Type 0
TakesLines lines before now replies left (Ok ok) = AnswersAll lines before now replies left ok
TakesLines lines before now replies left (Err fault) = fault_from lines 1 ≡ Some fault

-- What a text is answered where its requests were answered so, and these replies are left.
abbrev pub ended : List ℕ → Bool → List ReplyLine → Option ℕ → Answered
ended out ok left None = record { told = out ++ flat_map stray_line left; refused = not ok || not (are_none left); fault = None }
ended out ok left (Some number) = record { told = []; refused = false; fault = Some (because.NoReply number) }

-- What is told of these lines of requests with these replies, of which one line is none or all are.
pub record IsAnswered (lines : List (List ℕ)) (replies : List ReplyLine) (no_reply : Option ℕ) (a : Answered) : Type 0 where
  pub told : a.told ≡ told_unless (fault_with (fault_from lines 1) no_reply) (answers_for (requests_from lines 1 1) replies)
  pub refused : a.refused ≡ refused_unless (fault_with (fault_from lines 1) no_reply) (not (are_ok (requests_from lines 1 1) replies))
  pub fault : a.fault ≡ fault_with (fault_from lines 1) no_reply

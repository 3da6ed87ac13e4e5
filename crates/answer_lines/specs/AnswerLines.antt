-- Each reply beside its request (docs/FORMATS.md, "Answers").
use Rattle.std.specs.Prelude.{ℕ, ◌+◌, Bool, true, false, not, ◌&&◌, ◌==◌, if◌then◌else◌, List, [], ◌∷◌, ◌++◌, codes, decimal, None, Some, Ok, Err}
use Rattle.std.specs.declared.option.Option.{Option}
use Rattle.std.specs.declared.result.Result.{Result}
use Rattle.std.specs.List.{flat_map}
use Rattle.frame_lines.specs.declared.lines.Line.{Line}
use Rattle.frame_lines.specs.declared.lines.LineCause.{LineCause}
use Rattle.frame_lines.specs.declared.lines.LineFault.{LineFault}
use Rattle.frame_lines.specs.TextLines.{lines_of, passes}
use Rattle.frame_lines.specs.LineReading.{said_by}
use Rattle.frame_lines.specs.TextReading.{frame_of, next_after, fault_from}
use Rattle.frame_lines.specs.TextFaults.{name_on}
use Rattle.frame_lines.specs.FaultTexts.{line_text}
use Rattle.answer_lines.specs.declared.replies.ReplyLine.{ReplyLine}
use Rattle.answer_lines.specs.declared.answering.AnswerFault.{AnswerFault}
use Rattle.answer_lines.specs.declared.answering.AnswerFault.TheVariants.{NoRequest, NoReply}
use Rattle.answer_lines.specs.AnswerParts.{before_mark, behind_mark, number_behind}
use Rattle.answer_lines.specs.ReplyLines.{replies_from, no_reply_from}

-- ---- requests

-- A request: the number of its line, its sequence number as `encode` gives it, and its line from the NAME on.
pub record Request : Type 0 where
  pub line : ℕ
  pub sequence : ℕ
  pub asked : List ℕ

-- The request of a line of this number that says a frame, where this sequence number comes next.
abbrev pub request_of : ℕ → ℕ → List ℕ → Line → Request
request_of number next line said = record { line = number; sequence = (frame_of next said).sequence; asked = name_on line }

-- The request of a line, and those of the lines behind it; none from a line on that says no frame.
abbrev pub and_requests : ℕ → ℕ → List ℕ → Result Line LineCause → (ℕ → List Request) → List Request
and_requests number next line (Err cause) later = []
and_requests number next line (Ok said) later = request_of number next line said ∷ later (next_after (frame_of next said).sequence)

-- The requests of some lines in order, up to one that says none, where they are counted from this number and this sequence number comes
-- next.
abbrev pub requests_from : List (List ℕ) → ℕ → ℕ → List Request
requests_from [] number next = []
requests_from (line ∷ lines) number next =
    if passes line then requests_from lines (number + 1) next
    else and_requests number next line (said_by line) (requests_from lines (number + 1))

-- ---- the reply to a request

-- The first of some replies that has this sequence number.
abbrev pub reply_to : ℕ → List ReplyLine → Option ReplyLine
reply_to sequence [] = None
reply_to sequence (reply ∷ replies) = if reply.sequence == sequence then Some reply else reply_to sequence replies

-- The replies without that one.
abbrev pub without_reply : ℕ → List ReplyLine → List ReplyLine
without_reply sequence [] = []
without_reply sequence (reply ∷ replies) = if reply.sequence == sequence then replies else reply ∷ without_reply sequence replies

-- What a request is answered.
abbrev pub answer_words : Option ReplyLine → List ℕ
answer_words None = codes "unanswered"
answer_words (Some reply) = reply.words

-- Whether a request is answered, and not refused.
abbrev pub has_success : Option ReplyLine → Bool
has_success None = false
has_success (Some reply) = reply.success

-- The line of a request and its answer.
abbrev pub answer_line : Request → Option ReplyLine → List ℕ
answer_line request reply = decimal request.line ++ (codes " " ++ (request.asked ++ (codes " -> " ++ (answer_words reply ++ codes "\n"))))

-- A reply as it was told, with a newline.
abbrev pub reply_line : ReplyLine → List ℕ
reply_line reply = decimal reply.sequence ++ (codes " " ++ (reply.words ++ codes "\n"))

-- The line of a reply to no request.
abbrev pub stray_line : ReplyLine → List ℕ
stray_line reply = codes "no request -> " ++ reply_line reply

-- ---- all requests and replies

-- Whether there are no replies.
abbrev pub are_none : List ReplyLine → Bool
are_none [] = true
are_none (reply ∷ replies) = false

-- The lines of some requests in order, each with the first reply to it that no request before it had, and of the replies that are left.
abbrev pub answers_for : List Request → List ReplyLine → List ℕ
answers_for [] replies = flat_map stray_line replies
answers_for (request ∷ requests) replies =
    answer_line request (reply_to request.sequence replies) ++ answers_for requests (without_reply request.sequence replies)

-- Whether each request is answered, and none refused, and no reply is left.
abbrev pub are_ok : List Request → List ReplyLine → Bool
are_ok [] replies = are_none replies
are_ok (request ∷ requests) replies =
    has_success (reply_to request.sequence replies) && are_ok requests (without_reply request.sequence replies)

-- ---- a text of both

-- The requests of a text.
abbrev pub requests_in : List ℕ → List Request
requests_in text = requests_from (before_mark (lines_of text)) 1 1

-- The replies of a text.
abbrev pub replies_in : List ℕ → List ReplyLine
replies_in text = replies_from (behind_mark (lines_of text))

-- The fault of the requests, or else that of the replies.
abbrev pub fault_with : Option LineFault → Option ℕ → Option AnswerFault
fault_with (Some fault) number = Some (NoRequest fault)
fault_with None (Some number) = Some (NoReply number)
fault_with None None = None

-- The fault of a text, if it has one.
abbrev pub answers_fault : List ℕ → Option AnswerFault
answers_fault text = fault_with (fault_from (before_mark (lines_of text)) 1) (no_reply_from (behind_mark (lines_of text)) (number_behind (lines_of text)))

-- Nothing is told of a text with a fault.
abbrev pub told_unless : Option AnswerFault → List ℕ → List ℕ
told_unless None told = told
told_unless (Some fault) told = []

-- Nothing is refused in a text with a fault.
abbrev pub refused_unless : Option AnswerFault → Bool → Bool
refused_unless None refused = refused
refused_unless (Some fault) refused = false

-- The lines of the requests of a text with their answers, and of its replies to no request.
abbrev pub answers_told : List ℕ → List ℕ
answers_told text = told_unless (answers_fault text) (answers_for (requests_in text) (replies_in text))

-- Whether a request of a text is refused or unanswered, or a reply is to no request.
abbrev pub is_refused : List ℕ → Bool
is_refused text = refused_unless (answers_fault text) (not (are_ok (requests_in text) (replies_in text)))

-- A fault in words.
abbrev pub fault_words : AnswerFault → List ℕ
fault_words (NoRequest fault) = line_text fault
fault_words (NoReply number) = codes "line " ++ (decimal number ++ codes ": no reply")

-- The replies that lines tell, as `decode` tells them (docs/FORMATS.md, "Answers").
use Rattle.std.specs.Prelude.{ℕ, ◌+◌, Bool, true, false, if◌then◌else◌, List, [], ◌∷◌, codes, None, Some}
use Rattle.std.specs.declared.option.Option.{Option}
use Rattle.std.specs.Str.{bytes_eq}
use Rattle.frame_lines.specs.TextLines.{passes}
use Rattle.frame_lines.specs.LineWords.{first_word, behind_word, number_in}
use Rattle.answer_lines.specs.declared.replies.ReplyLine.{ReplyLine}

-- Whether a word tells success or a refusal, if it tells one of the two.
abbrev pub success_in : List ℕ → Option Bool
success_in word = if bytes_eq word (codes "ok") then Some true else (if bytes_eq word (codes "refused") then Some false else None)

-- A reply of a sequence number, whether it had success, and its words behind the number, where both are there.
abbrev pub reply_with : Option ℕ → Option Bool → List ℕ → Option ReplyLine
reply_with None success words = None
reply_with (Some sequence) None words = None
reply_with (Some sequence) (Some success) words = Some (record { sequence = sequence; success = success; words = words })

-- The reply that a line tells, if it tells one: the sequence number of the request, `ok` or `refused`, and what stands behind.
abbrev pub reply_by : List ℕ → Option ReplyLine
reply_by line = reply_with (number_in (first_word line)) (success_in (first_word (behind_word line))) (behind_word line)

-- A reply, and those behind it; none from a line on that tells no reply.
abbrev pub and_replies : Option ReplyLine → List ReplyLine → List ReplyLine
and_replies None later = []
and_replies (Some reply) later = reply ∷ later

-- The replies of some lines in order, up to one that neither passes nor tells a reply.
abbrev pub replies_from : List (List ℕ) → List ReplyLine
replies_from [] = []
replies_from (line ∷ lines) = if passes line then replies_from lines else and_replies (reply_by line) (replies_from lines)

-- The number of a line that tells no reply, or of such a line behind it.
abbrev pub or_no_reply : ℕ → Option ReplyLine → Option ℕ → Option ℕ
or_no_reply number None later = Some number
or_no_reply number (Some reply) later = later

-- The number of the first of some lines that neither passes nor tells a reply, where they are counted from this number.
abbrev pub no_reply_from : List (List ℕ) → ℕ → Option ℕ
no_reply_from [] number = None
no_reply_from (line ∷ lines) number =
    if passes line then no_reply_from lines (number + 1) else or_no_reply number (reply_by line) (no_reply_from lines (number + 1))

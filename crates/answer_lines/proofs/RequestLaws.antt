-- A turn of the answering of requests.
use Rattle.std.proofs.Common.{◌≡◌, ℕ, ◌+◌, Bool, true, false, cond, ltb, List, [], ◌∷◌, ◌++◌, length, None, Some, Ok, Err, refl, sym, ap, ◌∙◌, subst, append_assoc}
use Rattle.std.specs.Prelude.{◌&&◌}
use Rattle.std.specs.declared.option.Option.{Option}
use Rattle.std.specs.declared.result.Result.{Result}
use Rattle.channel_frame.specs.FrameSpelling.{longest_body}
use Rattle.frame_lines.specs.declared.lines.Line.{Line}
use Rattle.frame_lines.specs.declared.lines.LineCause.{LineCause}
use Rattle.frame_lines.specs.declared.lines.LineCause.TheVariants.{TooLong}
use Rattle.frame_lines.specs.declared.lines.LineFault.{LineFault}
use Rattle.frame_lines.specs.TypeNames.{number_named}
use Rattle.frame_lines.specs.LineWords.{first_word, behind_word, are_digits, number_in}
use Rattle.frame_lines.specs.LineReading.{type_in, with_type, with_sequence, said_by}
use Rattle.frame_lines.specs.TextLines.{passes}
use Rattle.frame_lines.specs.TextReading.{frame_of, next_after, or_fault, fault_from}
use Rattle.frame_lines.specs.TextFaults.{name_on}
use Rattle.frame_lines.proofs.TurnLaws.{fault_at}
use Rattle.answer_lines.specs.declared.replies.ReplyLine.{ReplyLine}
use Rattle.answer_lines.specs.declared.pairing.Turn.{Turn}
use Rattle.answer_lines.specs.AnswerLines.{Request, request_of, and_requests, requests_from, reply_to, without_reply, has_success, answer_line, answers_for, are_ok}
use Rattle.answer_lines.specs.AnswerTurns.{PutsRequest, GoesOn, TakesLine}

-- ---- the NAME of a line

typed_at : (t : Bool) (sequence : Option ℕ) (content : ℕ) (body : List ℕ) (said : Line)
    → cond {A = Result Line LineCause} t (Err TooLong) (Ok (record { sequence = sequence; content = content; body = body })) ≡ Ok said → said.sequence ≡ sequence
typed_at true sequence content body said is = absurd cc
typed_at false sequence content body said is =
    let this : Line = record { sequence = sequence; content = content; body = body } in
    let same : said ≡ this = cc in
    ap (λ (l : Line). l.sequence) same

typed : (sequence content : Option ℕ) (body : List ℕ) (said : Line) → with_type sequence content body ≡ Ok said → said.sequence ≡ sequence
typed sequence None body said is = absurd cc
typed sequence (Some content) body said is = typed_at (ltb longest_body (length body)) sequence content body said is

numbered : (number : Option ℕ) (rest : List ℕ) (said : Line) → with_sequence number rest ≡ Ok said → said.sequence ≡ None → ⊥
numbered None rest said is none = cc
numbered (Some n) rest said is none = let own = typed (Some n) (type_in (first_word rest)) (behind_word rest) said is in cc

named_at : (t : Bool) (line : List ℕ) (said : Line) (n : ℕ)
    → cond t (with_sequence (number_in (first_word line)) (behind_word line)) (with_type None (number_named (first_word line)) (behind_word line)) ≡ Ok said
    → said.sequence ≡ Some n → behind_word line ≡ cond t (behind_word line) line
named_at true line said n is own = refl
named_at false line said n is own = let none = typed None (number_named (first_word line)) (behind_word line) said is in absurd cc

-- behind its own sequence number
pub named_behind : (line : List ℕ) (said : Line) (n : ℕ) → said_by line ≡ Ok said → said.sequence ≡ Some n → behind_word line ≡ name_on line
named_behind line said n is own = named_at (are_digits (first_word line)) line said n is own

alone_at : (t : Bool) (line : List ℕ) (said : Line)
    → cond t (with_sequence (number_in (first_word line)) (behind_word line)) (with_type None (number_named (first_word line)) (behind_word line)) ≡ Ok said
    → said.sequence ≡ None → line ≡ cond t (behind_word line) line
alone_at true line said is none = absurd (numbered (number_in (first_word line)) (behind_word line) said is none)
alone_at false line said is none = refl

-- without one
pub named_alone : (line : List ℕ) (said : Line) → said_by line ≡ Ok said → said.sequence ≡ None → line ≡ name_on line
named_alone line said is none = alone_at (are_digits (first_word line)) line said is none

-- ---- a turn

requests_passed : (line : List ℕ) (lines : List (List ℕ)) (number next : ℕ) → passes line ≡ true
    → requests_from (line ∷ lines) number next ≡ requests_from lines (number + 1) next
requests_passed line lines number next is =
    ap (λ (t : Bool). cond t (requests_from lines (number + 1) next) (and_requests number next line (said_by line) (requests_from lines (number + 1)))) is

requests_at : (line : List ℕ) (lines : List (List ℕ)) (number next : ℕ) (said : Result Line LineCause) → passes line ≡ false → said_by line ≡ said
    → requests_from (line ∷ lines) number next ≡ and_requests number next line said (requests_from lines (number + 1))
requests_at line lines number next said passes_not is =
    ap (λ (t : Bool). cond t (requests_from lines (number + 1) next) (and_requests number next line (said_by line) (requests_from lines (number + 1)))) passes_not
    ∙ ap (λ (s : Result Line LineCause). and_requests number next line s (requests_from lines (number + 1))) is

fault_passed : (line : List ℕ) (lines : List (List ℕ)) (number : ℕ) → passes line ≡ true → fault_from (line ∷ lines) number ≡ fault_from lines (number + 1)
fault_passed line lines number is =
    ap (λ (t : Bool). cond {A = Option LineFault} t (fault_from lines (number + 1)) (or_fault number (said_by line) (fault_from lines (number + 1)))) is

-- a line that passes
pub goes_passed : (number next : ℕ) (line out : List ℕ) (replies : List ReplyLine) → passes line ≡ true
    → GoesOn number next line out out replies replies (record { next = next; ok = true })
goes_passed number next line out replies is = record {
  told = λ lines. ap (λ (qs : List Request). out ++ answers_for qs replies) (sym (requests_passed line lines number next is));
  ok = λ lines. ap (λ (qs : List Request). are_ok qs replies) (sym (requests_passed line lines number next is));
  fault = λ lines. sym (fault_passed line lines number is);
}

-- a line whose request was answered
pub goes_answered : (number next : ℕ) (line before now : List ℕ) (replies left : List ReplyLine) (said : Line) (turn : Turn)
    → passes line ≡ false → said_by line ≡ Ok said → PutsRequest (request_of number next line said) before now replies left turn
    → GoesOn number next line before now replies left turn
goes_answered number next line before now replies left said turn passes_not is put =
    let q : Request = request_of number next line said in
    let own : List ReplyLine = without_reply q.sequence replies in
    let all : (lines : List (List ℕ)) → q ∷ requests_from lines (number + 1) turn.next ≡ requests_from (line ∷ lines) number next =
    λ lines. ap (λ (n : ℕ). q ∷ requests_from lines (number + 1) n) put.next ∙ sym (requests_at line lines number next (Ok said) passes_not is) in
    record {
      told = λ lines.
          let rest : List Request = requests_from lines (number + 1) turn.next in
          ap (λ (b : List ℕ). b ++ answers_for rest left) put.put
          ∙ ap (λ (rs : List ReplyLine). (before ++ answer_line q (reply_to q.sequence replies)) ++ answers_for rest rs) put.left_over
          ∙ append_assoc before (answer_line q (reply_to q.sequence replies)) (answers_for rest own)
          ∙ ap (λ (qs : List Request). before ++ answers_for qs replies) (all lines);
      ok = λ lines.
          let rest : List Request = requests_from lines (number + 1) turn.next in
          ap (λ (t : Bool). t && are_ok rest left) put.ok
          ∙ ap (λ (rs : List ReplyLine). has_success (reply_to q.sequence replies) && are_ok rest rs) put.left_over
          ∙ ap (λ (qs : List Request). are_ok qs replies) (all lines);
      fault = λ lines. sym (fault_at line lines number (Ok said) passes_not is);
    }

-- a line that says none
pub goes_not : (number : ℕ) (line : List ℕ) (cause : LineCause) → passes line ≡ false → said_by line ≡ Err cause
    → (lines : List (List ℕ)) → fault_from (line ∷ lines) number ≡ Some (record { line = number; cause = cause })
goes_not number line cause passes_not is lines = fault_at line lines number (Err cause) passes_not is

-- the turn of a line that goes on, and of one that does not
pub turn_on : (number next : ℕ) (line before now : List ℕ) (replies left : List ReplyLine) (r : Result Turn LineCause) (turn : Turn) → r ≡ Ok turn
    → TakesLine number next line before now replies left r → GoesOn number next line before now replies left turn
turn_on number next line before now replies left r turn is takes =
    subst (λ (x : Result Turn LineCause). TakesLine number next line before now replies left x) is takes

pub turn_off : (number next : ℕ) (line before now : List ℕ) (replies left : List ReplyLine) (r : Result Turn LineCause) (cause : LineCause) → r ≡ Err cause
    → TakesLine number next line before now replies left r → (lines : List (List ℕ)) → fault_from (line ∷ lines) number ≡ Some (record { line = number; cause = cause })
turn_off number next line before now replies left r cause is takes =
    subst (λ (x : Result Turn LineCause). TakesLine number next line before now replies left x) is takes

-- what was put down of a request, by its parts
pub puts : (number next : ℕ) (line : List ℕ) (said : Line) (own : ℕ) (asked before now : List ℕ) (replies left : List ReplyLine) (reply : Option ReplyLine) (turn : Turn)
    → own ≡ (frame_of next said).sequence → asked ≡ name_on line → reply ≡ reply_to own replies → left ≡ without_reply own replies
    → now ≡ before ++ answer_line (record { line = number; sequence = own; asked = asked }) reply → turn.ok ≡ has_success reply → turn.next ≡ next_after own
    → PutsRequest (request_of number next line said) before now replies left turn
puts number next line said own asked before now replies left reply turn same named found rest put ok then =
    let sequence : ℕ = (frame_of next said).sequence in
    let is : reply ≡ reply_to sequence replies = found ∙ ap (λ (s : ℕ). reply_to s replies) same in
    record {
      put =
          put ∙ ap (λ (a : List ℕ). before ++ answer_line (record { line = number; sequence = own; asked = a }) reply) named
          ∙ ap (λ (r : Option ReplyLine). before ++ answer_line (record { line = number; sequence = own; asked = name_on line }) r) is;
      left_over = rest ∙ ap (λ (s : ℕ). without_reply s replies) same;
      ok = ok ∙ ap has_success is;
      next = then ∙ ap next_after same;
    }

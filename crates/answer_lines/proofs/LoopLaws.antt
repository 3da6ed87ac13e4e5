-- What is left to answer, and what all is answered.
use Rattle.std.proofs.Common.{◌≡◌, ℕ, ◌+◌, Bool, true, false, List, [], ◌∷◌, ◌++◌, None, Some, refl, sym, ap, ◌∙◌}
use Rattle.std.specs.Prelude.{◌&&◌}
use Rattle.std.specs.declared.option.Option.{Option}
use Rattle.std.specs.List.{flat_map}
use Rattle.frame_lines.specs.declared.lines.LineFault.{LineFault}
use Rattle.frame_lines.specs.declared.lines.LineCause.{LineCause}
use Rattle.frame_lines.specs.TextReading.{fault_from}
use Rattle.answer_lines.specs.declared.replies.ReplyLine.{ReplyLine}
use Rattle.answer_lines.specs.declared.pairing.Turn.{Turn}
use Rattle.answer_lines.specs.AnswerLines.{requests_from, answers_for, are_ok}
use Rattle.answer_lines.specs.AnswerTurns.{GoesOn, AnswersAll}

-- So far: what is put down and what the rest is still answered are all answers of these lines; the fault of the rest is the fault.
pub record SoFar (all rest : List (List ℕ)) (number next : ℕ) (before now : List ℕ) (replies left : List ReplyLine) (ok : Bool) : Type 0 where
  pub answers : now ++ answers_for (requests_from rest number next) left ≡ before ++ answers_for (requests_from all 1 1) replies
  pub all_ok : (ok && are_ok (requests_from rest number next) left) ≡ are_ok (requests_from all 1 1) replies
  pub fault : fault_from rest number ≡ fault_from all 1

pub starts : (all : List (List ℕ)) (before : List ℕ) (replies : List ReplyLine) → SoFar all all 1 1 before before replies replies true
starts all before replies = record { answers = refl; all_ok = refl; fault = refl }

and_assoc : (a b c : Bool) → ((a && b) && c) ≡ (a && (b && c))
and_assoc true b c = refl
and_assoc false b c = refl

-- a line more
pub goes : (all rest behind : List (List ℕ)) (line : List ℕ) (number next : ℕ) (before mid now : List ℕ) (replies left over : List ReplyLine) (ok both : Bool) (turn : Turn)
    → SoFar all rest number next before mid replies left ok → rest ≡ line ∷ behind → GoesOn number next line mid now left over turn → both ≡ (ok && turn.ok)
    → SoFar all behind (number + 1) turn.next before now replies over both
goes all rest behind line number next before mid now replies left over ok both turn so is turned same = record {
  answers = turned.told behind ∙ ap (λ (ls : List (List ℕ)). mid ++ answers_for (requests_from ls number next) left) (sym is) ∙ so.answers;
  all_ok =
      ap (λ (t : Bool). t && are_ok (requests_from behind (number + 1) turn.next) over) same
      ∙ and_assoc ok turn.ok (are_ok (requests_from behind (number + 1) turn.next) over)
      ∙ ap (λ (t : Bool). ok && t) (turned.ok behind)
      ∙ ap (λ (ls : List (List ℕ)). ok && are_ok (requests_from ls number next) left) (sym is)
      ∙ so.all_ok;
  fault = turned.fault behind ∙ ap (λ (ls : List (List ℕ)). fault_from ls number) (sym is) ∙ so.fault;
}

-- no line more
pub ends : (all rest : List (List ℕ)) (number next : ℕ) (before now : List ℕ) (replies left : List ReplyLine) (ok : Bool)
    → SoFar all rest number next before now replies left ok → rest ≡ [] → AnswersAll all before now replies left ok
ends all rest number next before now replies left ok so is = record {
  told = ap (λ (ls : List (List ℕ)). now ++ answers_for (requests_from ls number next) left) (sym is) ∙ so.answers;
  all_ok = ap (λ (ls : List (List ℕ)). ok && are_ok (requests_from ls number next) left) (sym is) ∙ so.all_ok;
  faultless = sym so.fault ∙ ap (λ (ls : List (List ℕ)). fault_from ls number) is;
}

-- a line that says no frame
pub fails : (all rest behind : List (List ℕ)) (line : List ℕ) (number next : ℕ) (before now : List ℕ) (replies left : List ReplyLine) (ok : Bool) (cause : LineCause)
    → SoFar all rest number next before now replies left ok → rest ≡ line ∷ behind
    → ((lines : List (List ℕ)) → fault_from (line ∷ lines) number ≡ Some (record { line = number; cause = cause }))
    → fault_from all 1 ≡ Some (record { line = number; cause = cause })
fails all rest behind line number next before now replies left ok cause so is fault =
    sym so.fault ∙ ap (λ (ls : List (List ℕ)). fault_from ls number) is ∙ fault behind

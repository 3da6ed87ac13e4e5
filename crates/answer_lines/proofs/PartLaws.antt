-- The line between the requests and the replies.
use Rattle.std.proofs.Common.{◌≡◌, ℕ, Bool, true, false, cond, List, [], ◌∷◌, ap}
use Rattle.answer_lines.specs.AnswerParts.{is_mark, before_mark, behind_mark}

pub no_mark : (line : List ℕ) (lines : List (List ℕ)) → is_mark line ≡ false
    → (before_mark (line ∷ lines) ≡ line ∷ before_mark lines) × (behind_mark (line ∷ lines) ≡ behind_mark lines)
no_mark line lines is =
    (ap (λ (t : Bool). cond t [] (line ∷ before_mark lines)) is, ap (λ (t : Bool). cond t lines (behind_mark lines)) is)

pub at_mark : (line : List ℕ) (lines : List (List ℕ)) → is_mark line ≡ true
    → (before_mark (line ∷ lines) ≡ []) × (behind_mark (line ∷ lines) ≡ lines)
at_mark line lines is =
    (ap (λ (t : Bool). cond t [] (line ∷ before_mark lines)) is, ap (λ (t : Bool). cond t lines (behind_mark lines)) is)

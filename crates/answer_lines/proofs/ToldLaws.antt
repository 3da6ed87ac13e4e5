-- The line of a reply, as it is told, read again.
use Rattle.std.proofs.Common.{◌≡◌, ℕ, ◌<◌, ◌^◌, Bool, true, false, List, [], ◌∷◌, ◌++◌, codes, decimal, None, Some, refl, ap, ◌∙◌}
use Rattle.std.specs.declared.option.Option.{Option}
use Rattle.frame_lines.specs.FrameLines.{body_words}
use Rattle.frame_lines.specs.LineWords.{first_word, behind_word, number_in}
use Rattle.frame_lines.specs.TextLines.{passes}
use Rattle.frame_lines.proofs.CutLaws.{word_cut}
use Rattle.frame_lines.proofs.WordLaws.{number_word, digit_passes_not}
use Rattle.answer_lines.specs.declared.replies.ReplyLine.{ReplyLine}
use Rattle.answer_lines.specs.ReplyLines.{success_in, reply_with, reply_by}

ok_word : (body : List ℕ) → success_in (first_word (codes "ok" ++ body_words body)) ≡ Some true
ok_word [] = refl
ok_word (b ∷ body) = refl

refused_word : (body : List ℕ) → success_in (first_word (codes "refused" ++ body_words body)) ≡ Some false
refused_word [] = refl
refused_word (b ∷ body) = refl

-- a number, a space and words that begin with a success
told_again : (request : ℕ) (words : List ℕ) (success : Bool) → request < 2 ^ 32 → success_in (first_word words) ≡ Some success
    → reply_by (decimal request ++ 32 ∷ words) ≡ Some (record { sequence = request; success = success; words = words })
told_again request words success fits is =
    let line : List ℕ = decimal request ++ 32 ∷ words in
    let number = number_word request fits in
    let cut = word_cut (decimal request) words number.plain.spaces in
    ap (λ (n : Option ℕ). reply_with n (success_in (first_word (behind_word line))) (behind_word line)) (ap number_in cut.0 ∙ number.reads)
    ∙ ap (λ (ws : List ℕ). reply_with (Some request) (success_in (first_word ws)) ws) cut.1
    ∙ ap (λ (s : Option Bool). reply_with (Some request) s words) is

pub ok_again : (request : ℕ) (body : List ℕ) → request < 2 ^ 32
    → reply_by (decimal request ++ (codes " ok" ++ body_words body)) ≡ Some (record { sequence = request; success = true; words = codes "ok" ++ body_words body })
ok_again request body fits = told_again request (codes "ok" ++ body_words body) true fits (ok_word body)

pub refused_again : (request : ℕ) (body : List ℕ) → request < 2 ^ 32
    → reply_by (decimal request ++ (codes " refused" ++ body_words body)) ≡ Some (record { sequence = request; success = false; words = codes "refused" ++ body_words body })
refused_again request body fits = told_again request (codes "refused" ++ body_words body) false fits (refused_word body)

pub told_stays : (request : ℕ) (words : List ℕ) → request < 2 ^ 32 → passes (decimal request ++ words) ≡ false
told_stays request words fits = let number = number_word request fits in digit_passes_not (decimal request) words number.some number.digits

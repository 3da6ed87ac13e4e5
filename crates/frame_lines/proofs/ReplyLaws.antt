-- The lines of replies.
use Rattle.std.proofs.Common.{◌≡◌, ℕ, ◌<◌, ◌^◌, Bool, true, false, List, ◌++◌, codes, decimal, None, Some, Ok, ap, ◌∙◌, append_assoc}
use Rattle.std.specs.declared.option.Option.{Option}
use Rattle.std.proofs.lemmas.Nat.{from_le_bytes-to_le_bytes_4}
use Rattle.channel_frame.specs.FrameSpelling.{number}
use Rattle.channel_frame.specs.StreamReading.{number_at}
use Rattle.frame_lines.specs.declared.told.TellCause.{TellCause}
use Rattle.frame_lines.specs.FrameLines.{reply_words, body_words, body_cause, line_with, line_for}
use Rattle.frame_lines.specs.FullLines.{reply_with}

-- the number that a header spells is read
number_again : (n : ℕ) → n < 2 ^ 32 → number_at 0 (number n) ≡ n
number_again n fits = from_le_bytes-to_le_bytes_4 n fits

told : (request read : ℕ) (success : Bool) (body : List ℕ) → read ≡ request → body_cause body ≡ None
    → line_with (Some (reply_words (read, success))) (body_cause body) body ≡ Ok (reply_words (request, success) ++ body_words body)
told request read success body same none =
    ap (λ (n : ℕ). line_with (Some (reply_words (n, success))) (body_cause body) body) same
    ∙ ap (λ (c : Option TellCause). line_with (Some (reply_words (request, success))) c body) none

pub ok_told : (sequence request : ℕ) (body : List ℕ) → request < 2 ^ 32 → body_cause body ≡ None
    → line_for (reply_with sequence request 1 body) ≡ Ok (decimal request ++ (codes " ok" ++ body_words body))
ok_told sequence request body fits none =
    told request (number_at 0 (number request)) true body (number_again request fits) none ∙ ap Ok (append_assoc (decimal request) (codes " ok") (body_words body))

pub refused_told : (sequence request : ℕ) (body : List ℕ) → request < 2 ^ 32 → body_cause body ≡ None
    → line_for (reply_with sequence request 0 body) ≡ Ok (decimal request ++ (codes " refused" ++ body_words body))
refused_told sequence request body fits none =
    told request (number_at 0 (number request)) false body (number_again request fits) none ∙ ap Ok (append_assoc (decimal request) (codes " refused") (body_words body))

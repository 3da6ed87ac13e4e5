-- Why no line tells a body.
use Rattle.std.proofs.Common.{◌≡◌, ◌-◌, ℕ, Bool, true, false, cond, eqb, get_or, List, length, None, Some, refl, ap, ◌∙◌}
use Rattle.std.specs.declared.option.Option.{Option}
use Rattle.std.specs.List.{list_any}
use Rattle.std.specs.Str.{IsUtf8, is_utf8}
use Rattle.std.proofs.lemmas.Str.{IsUtf8-from_is_utf8, is_utf8-from_IsUtf8}
use Rattle.frame_lines.specs.declared.told.TellCause.{TellCause}
use Rattle.frame_lines.specs.declared.told.TellCause.TheVariants.{Newline, Return, NotText}
use Rattle.frame_lines.specs.FrameLines.{body_cause}

-- a body without a newline and without a carriage return at its end is told where it is text
pub plain_body : (body : List ℕ) (text : Bool) → list_any (λ b. eqb b 10) body ≡ false → eqb (get_or body (length body - 1) 0) 13 ≡ false → is_utf8 body ≡ text
    → body_cause body ≡ cond {A = Option TellCause} text None (Some NotText)
plain_body body text newline return is =
    ap (λ (t : Bool). cond {A = Option TellCause} t (Some Newline) (cond (eqb (get_or body (length body - 1) 0) 13) (Some Return) (cond (is_utf8 body) None (Some NotText)))) newline
    ∙ ap (λ (t : Bool). cond {A = Option TellCause} t (Some Return) (cond (is_utf8 body) None (Some NotText))) return
    ∙ ap (λ (t : Bool). cond {A = Option TellCause} t None (Some NotText)) is

no_text_at : (body : List ℕ) (text : Bool) → is_utf8 body ≡ text → (IsUtf8 body → ⊥) → text ≡ false
no_text_at body true is none = absurd (none (IsUtf8-from_is_utf8 body is))
no_text_at body false is none = refl

pub no_text : (body : List ℕ) → (IsUtf8 body → ⊥) → is_utf8 body ≡ false
no_text body none = no_text_at body (is_utf8 body) refl none

pub text : (body : List ℕ) → IsUtf8 body → is_utf8 body ≡ true
text = is_utf8-from_IsUtf8

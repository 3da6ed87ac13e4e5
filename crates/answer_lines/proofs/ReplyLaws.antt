-- A turn of the reading of replies.
use Rattle.std.proofs.Common.{◌≡◌, ℕ, ◌+◌, Bool, true, false, cond, List, [], ◌∷◌, ◌++◌, None, Some, refl, sym, ap, ◌∙◌, append_assoc, append-nil}
use Rattle.std.specs.declared.option.Option.{Option}
use Rattle.frame_lines.specs.TextLines.{passes}
use Rattle.answer_lines.specs.declared.replies.ReplyLine.{ReplyLine}
use Rattle.answer_lines.specs.ReplyLines.{reply_by, and_replies, replies_from, or_no_reply, no_reply_from}
use Rattle.answer_lines.specs.AnswerTurns.{ReadsReply, ReadsNone}

replies_at : (line : List ℕ) (lines : List (List ℕ)) (o : Option ReplyLine) → passes line ≡ false → reply_by line ≡ o
    → replies_from (line ∷ lines) ≡ and_replies o (replies_from lines)
replies_at line lines o passes_not is =
    ap (λ (t : Bool). cond t (replies_from lines) (and_replies (reply_by line) (replies_from lines))) passes_not
    ∙ ap (λ (r : Option ReplyLine). and_replies r (replies_from lines)) is

no_reply_at : (line : List ℕ) (lines : List (List ℕ)) (number : ℕ) (o : Option ReplyLine) → passes line ≡ false → reply_by line ≡ o
    → no_reply_from (line ∷ lines) number ≡ or_no_reply number o (no_reply_from lines (number + 1))
no_reply_at line lines number o passes_not is =
    ap (λ (t : Bool). cond {A = Option ℕ} t (no_reply_from lines (number + 1)) (or_no_reply number (reply_by line) (no_reply_from lines (number + 1)))) passes_not
    ∙ ap (λ (r : Option ReplyLine). or_no_reply number r (no_reply_from lines (number + 1))) is

-- a line that passes
pub reads_passed : (line : List ℕ) (told : List ReplyLine) → passes line ≡ true → ReadsReply line told told
reads_passed line told is = record {
  told = λ lines. ap (λ (t : Bool). told ++ cond t (replies_from lines) (and_replies (reply_by line) (replies_from lines))) (sym is);
  fault = λ lines number.
      ap (λ (t : Bool). cond {A = Option ℕ} t (no_reply_from lines (number + 1)) (or_no_reply number (reply_by line) (no_reply_from lines (number + 1)))) (sym is);
}

-- a line that tells a reply
pub reads_reply : (line : List ℕ) (before now : List ReplyLine) (reply : ReplyLine) → passes line ≡ false → reply_by line ≡ Some reply
    → now ≡ before ++ reply ∷ [] → ReadsReply line before now
reads_reply line before now reply passes_not is put = record {
  told = λ lines.
      ap (λ (rs : List ReplyLine). rs ++ replies_from lines) put ∙ append_assoc before (reply ∷ []) (replies_from lines)
      ∙ ap (λ (rs : List ReplyLine). before ++ rs) (sym (replies_at line lines (Some reply) passes_not is));
  fault = λ lines number. sym (no_reply_at line lines number (Some reply) passes_not is);
}

-- a line that tells none
pub reads_none : (line : List ℕ) (told : List ReplyLine) → passes line ≡ false → reply_by line ≡ None → ReadsNone line told told
reads_none line told passes_not is = record {
  told = λ lines. sym (append-nil told) ∙ ap (λ (rs : List ReplyLine). told ++ rs) (sym (replies_at line lines None passes_not is));
  fault = λ lines number. no_reply_at line lines number None passes_not is;
}

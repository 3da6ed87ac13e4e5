use Rattle.std.proofs.Common.{◌≡◌, ◌≤◌, ◌++◌, length, sym, ap, ap₂, ◌∙◌, subst}
use Rattle.json.specs.Print.{print}
use Rattle.reply_codec.specs.ReplyBody.{reply_body}
use Rattle.reply_codec.specs.ReplyTokens.{reply_tokens}
use Rattle.reply_codec.proofs.TokenLaws.{print-reply}
use Rattle.reply_codec.proofs.writing.body_bytes.Goals as goal
use Rattle.reply_codec.proofs.writing.body_bytes.Goals.{After-of}

is_body : (c : After-of) → c.of.result ≡ reply_body c.args.reply.now
is_body c =
    c.of.ensures ∙ c.into_inner.ensures.items
    ∙ ap₂ (λ before tokens. before ++ print tokens) (c.in_ok-put_reply.ensures.before ∙ c.new-writer.ensures.before ∙ c.in_ok-with_capacity.ensures.items)
    (c.in_ok-put_reply.ensures.written ∙ ap (λ tokens. tokens ++ reply_tokens c.args.reply.now) c.new-writer.ensures.tokens)
    ∙ print-reply c.args.reply.now

pub returns-clause-value : goal.returns-clause-value
returns-clause-value c = is_body c

pub returns-clause-few : goal.returns-clause-few
returns-clause-few c = subst (λ bytes. length bytes ≤ 1048576) (sym (is_body c)) c.in_ok-put_reply.ensures.few

use Rattle.std.proofs.Common.{◌≡◌, ◌==◌, false, cond, [], sym, ap, ◌∙◌}
use Rattle.std.proofs.lemmas.Result.{IfOk-weaker}
use Rattle.serde_json.specs.Written.{compact_text}
use Rattle.ctrl_model.specs.ContentTypes.{content_of}
use Rattle.command_bodies.specs.BodyTexts.{body_object}
use Rattle.command_bodies.proofs.ReadBack.{other_than_hello, means_back}
use Rattle.command_bodies.proofs.writing.write.Goals as goal

pub returns : goal.returns
returns c =
    let command = c.args.command.now in
    let other : (content_of command == 0) ≡ false = other_than_hello command c.in_default.not-Hello in
    record {
      body = IfOk-weaker c.object_bytes.result _ _ (λ b e. e ∙ sym (ap (λ t. cond t [] (compact_text (body_object command))) other)) c.object_bytes.ensures.text;
      reads_back = IfOk-weaker c.object_bytes.result _ _ (λ b e. means_back command c.requires c.in_default.not-Hello b e) c.object_bytes.ensures.reads;
    }

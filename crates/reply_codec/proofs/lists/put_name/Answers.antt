use Rattle.std.proofs.Common.{◌≤◌, length, arith}
use Rattle.std.proofs.lemmas.Result.{on_ok_weaker}
use Rattle.serde_json.specs.Data.{string}
use Rattle.serde_json.specs.Written.{compact_text}
use Rattle.reply_codec.proofs.TextLengths.{length-string}
use Rattle.reply_codec.proofs.lists.put_name.Goals as goal

pub returns-clause-few : goal.returns-clause-few
returns-clause-few c =
    let short : length (compact_text (string c.args.name.now)) ≤ 386 = omega (arith, length-string c.args.name.now, c.name_text.ensures.few) in
    on_ok_weaker c.string.result (λ _. short) c.string.ensures.ok

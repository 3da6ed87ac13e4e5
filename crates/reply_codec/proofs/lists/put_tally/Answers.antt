use Rattle.std.proofs.Common.{◌≤◌, length, length-append, arith}
use Rattle.std.proofs.lemmas.Result.{on_ok_weaker}
use Rattle.serde_json.specs.Written.{compact_text}
use Rattle.reply_codec.specs.ReplyBody.{tally_array}
use Rattle.reply_codec.proofs.TextLengths.{length-natural}
use Rattle.reply_codec.proofs.lists.put_tally.Goals as goal

pub returns-clause-few : goal.returns-clause-few
returns-clause-few c =
    let short : length (compact_text (tally_array c.args.tally.now)) ≤ 399 =
    simp length-append (omega (arith, simp length-append at c.in_ok-put_name.ensures.few, length-natural c.args.tally.now.count (omega arith))) in
    on_ok_weaker c.end_array.result (λ _. short) c.end_array.ensures.ok

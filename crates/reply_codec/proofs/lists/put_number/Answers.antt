use Rattle.std.proofs.Common.{arith}
use Rattle.std.proofs.lemmas.Result.{on_ok_weaker}
use Rattle.reply_codec.proofs.TextLengths.{length-natural}
use Rattle.reply_codec.proofs.lists.put_number.Goals as goal

pub returns-clause-few : goal.returns-clause-few
returns-clause-few c = on_ok_weaker c.u64.result (λ _. length-natural c.args.number (omega arith)) c.u64.ensures.ok

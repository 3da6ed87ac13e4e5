use Rattle.std.proofs.lemmas.Result.{on_ok_weaker}
use Rattle.reply_codec.proofs.TextLengths.{length-cost}
use Rattle.reply_codec.proofs.lists.put_cost.Goals as goal

pub returns-else-cost-eq18446744073709551615-clause-few : goal.returns-else-cost-eq18446744073709551615-clause-few
returns-else-cost-eq18446744073709551615-clause-few c = on_ok_weaker c.u64.result (λ _. length-cost c.args.cost c.requires) c.u64.ensures.ok

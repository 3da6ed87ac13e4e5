use Rattle.std.proofs.Common.{length-append, arith, lit<}
use Rattle.serde_json.proofs.OnLiterals.{serde_json_on_literals}
use Rattle.reply_codec.proofs.TextLengths.{length-natural, length-wide_natural}
use Rattle.follow_core.proofs.replies.ahead_value.Goals as goal

pub returns-in-Ok-json-6-clause-few : goal.returns-in-Ok-json-6-clause-few
unfolding serde_json_on_literals
returns-in-Ok-json-6-clause-few c = simp length-append (omega (arith, length-natural 63 (lit< tt), length-wide_natural c.args.own (omega arith)))

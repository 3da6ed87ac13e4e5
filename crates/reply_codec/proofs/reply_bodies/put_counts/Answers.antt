use Rattle.std.proofs.Common.{arith}
use Rattle.std.proofs.lemmas.Result.{on_ok_weaker}
use Rattle.reply_codec.proofs.reply_bodies.put_counts.Goals as goal

pub returns-clause-written : goal.returns-clause-written
returns-clause-written c = rw c.in-Counts.is c.put_object.ensures.written

pub returns-clause-few : goal.returns-clause-few
returns-clause-few c = rw c.in-Counts.is (on_ok_weaker c.put_object.result (λ h. omega (arith, h)) c.put_object.ensures.few)

use Rattle.std.proofs.Common.{◌+◌, ◌≤◌, true, false, arith}
use Rattle.ctrl_model.specs.Limits.{most_number}
use Rattle.grant_denorm.specs.CountsAfter.{steps_at}
use Rattle.grant_denorm.specs.PairCounts.{count_of}
use Rattle.grant_denorm.proofs.after.CountedAfter.set_steps.Goals as goal

pub tally-requires : goal.tally-requires
tally-requires c = λ p q.
    let most : count_of c.args.self.now.before p q + steps_at true c.args.steps.now p q ≤ most_number = c.requires.most p q in omega (arith, most)

pub tally-requires-2 : goal.tally-requires-2
tally-requires-2 c = λ p q.
    let least : steps_at false c.args.steps.now p q ≤ count_of c.args.self.now.before p q = c.requires.least p q in
    let most = c.requires.most p q in omega (arith, least, most)

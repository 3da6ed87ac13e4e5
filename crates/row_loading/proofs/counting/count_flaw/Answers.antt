use Rattle.row_loading.proofs.JudgedCounts.{judged_wrong, judged_right}
use Rattle.row_loading.proofs.counting.count_flaw.Goals as goal

pub returns-then-count-told : goal.returns-then-count-told
returns-then-count-told c = judged_wrong c.count.result c.args.told _ c.count.ensures c.if-count-told.true

pub returns : goal.returns
returns c = judged_right c.count.result c.args.told _ c.count.ensures c.if-count-told.false

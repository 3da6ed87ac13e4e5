use Rattle.grant_denorm.proofs.EqualCounts.{one_list}
use Rattle.grant_denorm.proofs.laws.one_list_of_counts.Goals as goal

pub returns : goal.returns
returns c = one_list

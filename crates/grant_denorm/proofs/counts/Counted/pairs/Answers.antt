use Rattle.std.proofs.Common.{subst}
use Rattle.grant_denorm.specs.PairCounts.{AreCounts}
use Rattle.grant_denorm.proofs.FlatCounts.{AreCounts_pairs}
use Rattle.grant_denorm.proofs.counts.Counted.pairs.Goals as goal

pub returns-clause-counts : goal.returns-clause-counts
returns-clause-counts c = subst AreCounts c.self.view_is (AreCounts_pairs c.self.inside.rows.items c.self.invariant.0)

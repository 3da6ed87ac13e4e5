use Rattle.std.proofs.Common.{◌≡◌}
use Rattle.desk_base.specs.MemEvents.{Writing, Cutting, Syncing}
use Rattle.desk_base.proofs.MemLaws.{may_push, may_pop}
use Rattle.desk_base.proofs.laws.pending_until_synced.Goals as goal

pub returns-clause-written : goal.returns-clause-written
returns-clause-written c = λ first es part at bytes done old new m by. may_pop first (λ i. i ≡ first) es (Writing part at bytes done) new (record { from = old; was = m; by = by })

pub returns-clause-cut : goal.returns-clause-cut
returns-clause-cut c = λ first es part len done old new m by. may_pop first (λ i. i ≡ first) es (Cutting part len done) new (record { from = old; was = m; by = by })

pub returns-clause-synced : goal.returns-clause-synced
returns-clause-synced c = λ first es part image m. let p = may_push first (λ i. i ≡ first) es (Syncing part) image m in p.1

pub returns-clause-stays : goal.returns-clause-stays
returns-clause-stays c = λ first es part image m same. may_pop first (λ i. i ≡ first) es (Syncing part) image (m, same)

pub returns-clause-at_first : goal.returns-clause-at_first
returns-clause-at_first c = λ first image m. m

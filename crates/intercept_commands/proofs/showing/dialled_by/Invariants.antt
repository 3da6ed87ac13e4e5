use Rattle.std.proofs.Common.{◌≡◌, ◌++◌, nat_lt, drop, filter}
use Rattle.grant_denorm.specs.PairCounts.{count_of}
use Rattle.intercept_commands.proofs.showing.dialled_by.Given as goal

-- the services so far and those that may be dialled among the ones that are left
abbrev pub invariant-services : goal.invariant-services
invariant-services l =
    l.dialled.items ++ filter (λ n. nat_lt 0 (count_of l.dial l.identity n)) (drop l.service-index l.service-items)
    ≡ filter (λ n. nat_lt 0 (count_of l.dial l.identity n)) l.service-items

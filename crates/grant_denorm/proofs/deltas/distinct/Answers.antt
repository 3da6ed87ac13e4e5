use Rattle.std.proofs.Common.{◌==◌, subst}
use Rattle.std.proofs.lemmas.List.Filters.{dedup_is}
use Rattle.std.specs.List.Sorted.{IsPermutation}
use Rattle.grant_denorm.proofs.MemberLaws.{AreThose-dedup}
use Rattle.grant_denorm.proofs.deltas.distinct.Goals as goal

pub returns : goal.returns
returns c =
    AreThose-dedup c.args.members.now c.sort_unstable.new.self.items c.dedup.new.self.items
    (subst (λ xs. IsPermutation xs c.sort_unstable.new.self.items) c.in_ok-ascending.ensures.items c.sort_unstable.ensures.permutation)
    c.sort_unstable.ensures.sorted (dedup_is ◌==◌ c.sort_unstable.new.self.items c.dedup.new.self.items c.dedup.ensures.filtered)

use Rattle.std.proofs.Common.{◌<◌, List, sym, subst}
use Rattle.attr_pool.specs.Slots.{Slot, slot_at, IsPool}
use Rattle.attr_pool.proofs.SlotLemmas.{IsPool-without_use}
use Rattle.attr_pool.proofs.pool.Pool.release.Goals as goal

pub invariant_of-self : goal.invariant_of-self
invariant_of-self c =
    let used = subst (λ (xs : List Slot). 0 < (slot_at xs c.args.slot).uses) (sym c.self.view_is) c.requires in
    subst IsPool (sym c.let_go_at.ensures) (IsPool-without_use c.self.inside.slots c.from.result c.self.invariant (subst (λ n. 0 < (slot_at c.self.inside.slots n).uses) (sym c.from.ensures) used))

use Rattle.std.proofs.Common.{◌<◌, ◌-◌, min, sym, subst, ◌∙◌, arith, List, ne_eqb, rules}
use Rattle.std.proofs.lemmas.List.{get_or_read}
use Rattle.attr_pool.specs.Slots.{Slot, free_slot, slot_at}
use Rattle.attr_pool.specs.Chains.{AreLinked, AreFound}
use Rattle.attr_pool.proofs.SlotLemmas.{used_within}
use Rattle.attr_pool.proofs.ChainLaws.{found_less, found_freed}
use Rattle.attr_pool.proofs.kept_slots.KeptSlots.let_go_at.Goals as goal

pub invariant_of-self : goal.invariant_of-self
invariant_of-self c =
    let slots = c.self.inside.chained.slots.items in
    let used = subst (λ (xs : List Slot). 0 < (slot_at xs c.args.number).uses) (sym c.self.view_is) c.requires in
    let within = used_within slots c.args.number used in
    let tested = get_or_read slots c.args.number c.index.result.now within c.index.ensures free_slot in
    let here = get_or_read slots c.args.number c.index_mut.result.now within c.index_mut.ensures.value free_slot in
    let some : 1 < c.index.result.now.uses = search rules in
    found_less slots c.self.inside.chained.links.items c.self.inside.held c.self.inside.first c.self.invariant c.args.number c.index_mut.result.now c.let_go.new.self here (subst (λ (s : Slot). 1 < s.uses) (tested ∙ sym here) some) c.let_go.ensures

pub invariant_of-self-2 : goal.invariant_of-self-2
invariant_of-self-2 c =
    let slots = c.self.inside.chained.slots.items in
    let links = c.free_at.new.chained.links.items in
    let used = subst (λ (xs : List Slot). 0 < (slot_at xs c.args.number).uses) (sym c.self.view_is) c.requires in
    let within = used_within slots c.args.number used in
    subst (λ f. AreFound c.free_at.new.chained.slots.items links (c.self.inside.held - 1) f) (sym c.min-self-inside.ensures)
    (subst (λ xs. AreFound xs links (c.self.inside.held - 1) (min c.self.inside.first c.args.number)) (sym c.free_at.ensures.slots)
    (found_freed slots c.self.inside.chained.links.items c.self.inside.held c.self.inside.first c.self.invariant c.args.number within links
    (subst (λ xs. AreLinked xs links) c.free_at.ensures.slots c.free_at.ensures.linked) (ne_eqb (slot_at slots c.args.number).uses 0 (λ z. omega (arith, z, used)))))

use Rattle.std.proofs.Common.{◌≡◌, ◌+◌, cond, set, sym, subst, ap, ◌∙◌, List, Some, ne_eqb, arith}
use Rattle.std.proofs.lemmas.List.{get_or_read}
use Rattle.attr_pool.specs.Slots.{Slot, free_slot, is_free, slot_at, number_for, with_use}
use Rattle.attr_pool.specs.Chains.{AreLinked, AreFound}
use Rattle.attr_pool.proofs.SlotLemmas.{number_fits, set-used}
use Rattle.attr_pool.proofs.ChainLaws.{found_held, found_more, first_free}
use Rattle.attr_pool.proofs.kept_slots.KeptSlots.use_at.Goals as goal

pub invariant_of-self : goal.invariant_of-self
invariant_of-self c =
    let slots = c.self.inside.chained.slots.items in
    let number = subst (λ (xs : List Slot). number_for c.args.name.now xs ≡ Some c.args.number) (sym c.self.view_is) c.requires in
    let fits = number_fits c.args.name.now slots c.args.number number in
    let tested = get_or_read slots c.args.number c.index.result.now fits.0 c.index.ensures free_slot in
    let here = get_or_read slots c.args.number c.index_mut.result.now fits.0 c.index_mut.ensures.value free_slot in
    found_more slots c.self.inside.chained.links.items c.self.inside.held c.self.inside.first c.self.invariant c.args.number c.args.name.now c.index_mut.result.now c.add_use.new.self c.add_use.result here fits.0
    (ap is_free (here ∙ sym tested) ∙ sym c.is_free.ensures ∙ c.if-not-is_free.true) c.add_use.ensures.value

pub returns-then-not-is_free-clause-value : goal.returns-then-not-is_free-clause-value
returns-then-not-is_free-clause-value c =
    let slots = c.self.inside.chained.slots.items in
    let number = subst (λ (xs : List Slot). number_for c.args.name.now xs ≡ Some c.args.number) (sym c.self.view_is) c.requires in
    let fits = number_fits c.args.name.now slots c.args.number number in
    let tested = get_or_read slots c.args.number c.index.result.now fits.0 c.index.ensures free_slot in
    let here = get_or_read slots c.args.number c.index_mut.result.now fits.0 c.index_mut.ensures.value free_slot in
    subst (λ (xs : List Slot). set slots c.args.number c.add_use.new.self ≡ cond c.add_use.result (set xs c.args.number (with_use c.args.name.now (slot_at xs c.args.number))) xs) c.self.view_is
    (set-used slots c.args.number c.args.name.now c.index_mut.result.now c.add_use.new.self c.add_use.result here fits.1 (ap is_free (here ∙ sym tested) ∙ sym c.is_free.ensures ∙ c.if-not-is_free.true) c.add_use.ensures.value)

pub invariant_of-self-2 : goal.invariant_of-self-2
invariant_of-self-2 c =
    let slots = c.self.inside.chained.slots.items in
    let links = c.hold_at.new.chained.links.items in
    let number = subst (λ (xs : List Slot). number_for c.args.name.now xs ≡ Some c.args.number) (sym c.self.view_is) c.requires in
    let fits = number_fits c.args.name.now slots c.args.number number in
    let tested = get_or_read slots c.args.number c.index.result.now fits.0 c.index.ensures free_slot in
    let first = first_free c.args.name.now slots c.args.number number (sym (ap is_free tested) ∙ sym c.is_free.ensures ∙ c.if-not-is_free.false) in
    subst (λ xs. AreFound xs links (c.self.inside.held + 1) (c.args.number + 1)) (sym c.hold_at.ensures.slots)
    (found_held slots c.self.inside.chained.links.items c.self.inside.held c.self.inside.first c.self.invariant c.args.number fits.0 (with_use c.bytes.result.now (slot_at slots c.args.number)) links
    (subst (λ xs. AreLinked xs links) c.hold_at.ensures.slots c.hold_at.ensures.linked) (ne_eqb ((slot_at slots c.args.number).uses + 1) 0 (λ z. absurd (omega (arith, z)))) first)

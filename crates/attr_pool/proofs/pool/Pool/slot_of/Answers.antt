use Rattle.std.proofs.Common.{◌≡◌, List, Some, None, sym, ◌∙◌, subst}
use Rattle.attr_pool.specs.Slots.{Slot, slot_of, IsPool}
use Rattle.attr_pool.proofs.SlotLemmas.{number_found}
use Rattle.attr_pool.proofs.pool.Pool.slot_of.Goals as goal

pub returns-in-Some-clause-alone : goal.returns-in-Some-clause-alone
returns-in-Some-clause-alone c = λ n within held.
    let some = subst (λ (xs : List Slot). slot_of c.args.name.now xs ≡ Some c.in-Some.number) c.self.view_is (sym c.in-Some.ensures) in
    let pool = subst IsPool c.self.view_is c.self.invariant in
    sym some ∙ number_found c.args.name.now c.args.self.now pool n held

pub returns-in-None-clause-alone : goal.returns-in-None-clause-alone
returns-in-None-clause-alone c = λ n within held.
    let none = subst (λ (xs : List Slot). slot_of c.args.name.now xs ≡ None) c.self.view_is (sym c.in-None.ensures) in
    let pool = subst IsPool c.self.view_is c.self.invariant in
    sym none ∙ number_found c.args.name.now c.args.self.now pool n held

use Rattle.std.proofs.Common.{◌≡◌, ℕ, Bool, true, false, not, cond, eqb, List, set, Result, Ok, Err, sym, ap, ◌∙◌, refl, arith}
use Rattle.std.proofs.lemmas.Bool.{eqb-true, eqb-false, not-true, not-false}
use Rattle.attr_pool.specs.declared.pool.PoolFault.{PoolFault}
use Rattle.attr_pool.specs.declared.pool.PoolFault.TheVariants.{Full, NoMemory}
use Rattle.attr_pool.specs.Slots.{Slot, slot_at, with_use, most_uses}
use Rattle.attr_pool.specs.Uses.{uses_of}
use Rattle.attr_pool.proofs.SlotLemmas.{number_none, number_some, number_fits, IsPool-used, none_holds}
use Rattle.attr_pool.proofs.SlotKeeping.{kept-interned}
use Rattle.attr_pool.proofs.UseLaws.{uses-none, uses-with_use, number-uses}
use Rattle.attr_pool.proofs.uses.intern_in.Goals as goal

neither : (A B : Type 0) → (A → ⊥) → (B → ⊥) → (A → B) × (B → A)
neither A B f g = ((λ a. absurd (f a)), (λ b. absurd (g b)))

ok_is_no_err : (n : ℕ) (x : PoolFault) → ◌≡◌ {A = Result ℕ PoolFault} (Ok n) (Err x) → ⊥
ok_is_no_err n x e = cc

memory_is_not_full : ◌≡◌ {A = Result ℕ PoolFault} (Err NoMemory) (Err Full) → ⊥
memory_is_not_full e = cc

full_is_not_memory : ◌≡◌ {A = Result ℕ PoolFault} (Err Full) (Err NoMemory) → ⊥
full_is_not_memory e = cc

fewer : (n m : ℕ) (r : Bool) → r ≡ true → r ≡ not (eqb n m) → n ≡ m → ⊥
fewer n m r t e s = eqb-false n m (not-true (eqb n m) (sym e ∙ t)) s

most : (n m : ℕ) (r : Bool) → r ≡ false → r ≡ not (eqb n m) → n ≡ m
most n m r t e = eqb-true n m (not-false (eqb n m) (sym e ∙ t))

taken : (new changed old : List Slot) (r : Bool) → r ≡ true → new ≡ cond r changed old → new ≡ changed
taken new changed old true t e = e
taken new changed old false t e = absurd (cc)

pub returns-in-None-clause-full : goal.returns-in-None-clause-full
returns-in-None-clause-full c =
    let full = number_none c.args.name.now c.args.slots.now c.requires.long (sym c.in-None.ensures) in
    ((λ _. full), (λ _. refl))

pub returns-in-None-clause-memory : goal.returns-in-None-clause-memory
returns-in-None-clause-memory c =
    let full = number_none c.args.name.now c.args.slots.now c.requires.long (sym c.in-None.ensures) in
    let none = uses-none c.args.name.now c.args.slots.now (none_holds c.args.name.now c.args.slots.now full.0) in
    neither _ _ full_is_not_memory (λ all. absurd (omega (arith, none, all)))

pub returns-then-use_at-clause-full : goal.returns-then-use_at-clause-full
returns-then-use_at-clause-full c =
    neither _ _ (ok_is_no_err c.in-Some.number Full) (number_some c.args.name.now c.args.slots.now c.in-Some.number c.requires.long (sym c.in-Some.ensures))

pub returns-then-use_at-clause-memory : goal.returns-then-use_at-clause-memory
returns-then-use_at-clause-memory c =
    let uses = number-uses c.args.name.now c.args.slots.now c.in-Some.number c.requires (sym c.in-Some.ensures) in
    neither _ _ (ok_is_no_err c.in-Some.number NoMemory) (λ full. fewer (slot_at c.args.slots.now c.in-Some.number).uses most_uses c.use_at.result c.if-use_at.true c.use_at.ensures.counted (sym uses ∙ full))

pub returns-then-use_at-clause-uses : goal.returns-then-use_at-clause-uses
returns-then-use_at-clause-uses c = λ q.
    let fits = number_fits c.args.name.now c.args.slots.now c.in-Some.number (sym c.in-Some.ensures) in
    ap (uses_of q) (taken c.use_at.new.self (set c.args.slots.now c.in-Some.number (with_use c.args.name.now (slot_at c.args.slots.now c.in-Some.number))) c.args.slots.now c.use_at.result c.if-use_at.true c.use_at.ensures.value)
    ∙ uses-with_use q c.args.name.now c.args.slots.now c.in-Some.number fits.0 fits.1

pub returns-then-use_at-clause-slots : goal.returns-then-use_at-clause-slots
returns-then-use_at-clause-slots c =
    kept-interned c.args.name.now c.args.slots.now c.use_at.new.self c.in-Some.number c.requires (sym c.in-Some.ensures)
    (taken c.use_at.new.self (set c.args.slots.now c.in-Some.number (with_use c.args.name.now (slot_at c.args.slots.now c.in-Some.number))) c.args.slots.now c.use_at.result c.if-use_at.true c.use_at.ensures.value)

pub returns-then-use_at-clause-pool : goal.returns-then-use_at-clause-pool
returns-then-use_at-clause-pool c =
    IsPool-used c.args.name.now c.args.slots.now c.use_at.new.self c.in-Some.number c.use_at.result c.requires (sym c.in-Some.ensures) c.use_at.ensures.value

pub returns-else-use_at-clause-full : goal.returns-else-use_at-clause-full
returns-else-use_at-clause-full c =
    neither _ _ memory_is_not_full (number_some c.args.name.now c.args.slots.now c.in-Some.number c.requires.long (sym c.in-Some.ensures))

pub returns-else-use_at-clause-memory : goal.returns-else-use_at-clause-memory
returns-else-use_at-clause-memory c =
    let uses = number-uses c.args.name.now c.args.slots.now c.in-Some.number c.requires (sym c.in-Some.ensures) in
    ((λ _. uses ∙ most (slot_at c.args.slots.now c.in-Some.number).uses most_uses c.use_at.result c.if-use_at.false c.use_at.ensures.counted), (λ _. refl))

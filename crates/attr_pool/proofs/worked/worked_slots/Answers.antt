use Rattle.std.proofs.Common.{◌≡◌, codes, replicate, refl, arith}
use Rattle.std.proofs.lemmas.List.{length-replicate}
use Rattle.std.proofs.lemmas.List.Elements.{All-replicate}
use Rattle.attr_pool.specs.Slots.{free_slot, most_slots}
use Rattle.attr_pool.proofs.SlotLemmas.{IsPool-free}
use Rattle.attr_pool.proofs.worked.worked_slots.Goals as goal

pub returns-clause-pool : goal.returns-clause-pool
returns-clause-pool c =
    IsPool-free (replicate most_slots free_slot) (length-replicate most_slots free_slot) (All-replicate (λ s. s ≡ free_slot) most_slots free_slot refl)

pub returns-clause-held_twice : goal.returns-clause-held_twice
returns-clause-held_twice c = λ p. let same = p.apart 0 1 (omega (arith, p.long)) (omega (arith, p.long)) (codes "red") refl refl in omega (arith, same)

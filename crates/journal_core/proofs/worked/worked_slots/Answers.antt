use Rattle.std.proofs.Common.{◌≡◌, ℕ, List, [], ◌∷◌, get_or, refl, ap, arith}
use Rattle.journal_core.proofs.worked.worked_slots.Goals as goal

pub returns-clause-created : goal.returns-clause-created
returns-clause-created c = record { gate = 0; more = []; split = refl; closed = λ e. absurd (omega (arith, e)); short = tt }

pub returns-clause-created_anew : goal.returns-clause-created_anew
returns-clause-created_anew c = record { gate = 0; more = []; split = refl; closed = λ e. absurd (omega (arith, e)); short = tt }

pub returns-clause-of_the_other_format : goal.returns-clause-of_the_other_format
returns-clause-of_the_other_format c = λ s. let same : 1 ≡ 2 = ap (λ (l : List ℕ). get_or l 4 0) s.split in absurd (omega (arith, same))

pub returns-clause-torn_record : goal.returns-clause-torn_record
returns-clause-torn_record c = record { gate = 0; more = 28 ∷ 0 ∷ 0 ∷ 0 ∷ 1 ∷ 2 ∷ []; split = refl; closed = λ e. absurd (omega (arith, e)); short = tt }

pub returns-clause-one_batch : goal.returns-clause-one_batch
returns-clause-one_batch c = record { gate = 0; more = []; split = refl; closed = λ e. absurd (omega (arith, e)); short = (omega arith, tt) }

pub returns-clause-with_a_serial : goal.returns-clause-with_a_serial
returns-clause-with_a_serial c = record { gate = 0; more = []; split = refl; closed = λ e. absurd (omega (arith, e)); short = (omega arith, tt) }

pub returns-clause-old_bytes : goal.returns-clause-old_bytes
returns-clause-old_bytes c = record { gate = 0; more = 1 ∷ 5 ∷ []; split = refl; closed = λ e. absurd (omega (arith, e)); short = (omega arith, tt) }

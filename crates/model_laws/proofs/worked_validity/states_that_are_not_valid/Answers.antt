use Rattle.std.proofs.Common.{◌≡◌, ℕ, ◌≤◌, [], codes, length, refl, ap, arith}
use Rattle.std.proofs.lemmas.Bool.{false≢true}
use Rattle.std.specs.Fmt.{digits}
use Rattle.ctrl_model.specs.declared.kinds.Kind.TheVariants as kind
use Rattle.ctrl_model.specs.State.{State, Entity}
use Rattle.model_laws.proofs.worked_validity.states_that_are_not_valid.Goals as goal

abbrev ann : Entity
ann = record { name = codes "ann"; attributes = [] }

one_is_not_two : ◌≡◌ {A = ℕ} 1 2 → ⊥
one_is_not_two e = absurd (omega arith)

pub returns-clause-number_past_its_end : goal.returns-clause-number_past_its_end
returns-clause-number_past_its_end c v = let last = (v.kinds kind.Service).numbers.last in absurd (omega (arith, last))

pub returns-clause-too_many : goal.returns-clause-too_many
returns-clause-too_many c v = let few : 257 ≤ 256 = (v.kinds kind.Router).numbers.few in absurd (omega arith)

pub returns-clause-name_twice : goal.returns-clause-name_twice
returns-clause-name_twice c v = one_is_not_two ((v.kinds kind.Identity).names refl 1 2 ann ann refl refl refl)

pub returns-clause-bad_record : goal.returns-clause-bad_record
returns-clause-bad_record c v = false≢true (v.kinds kind.Service).each

pub returns-clause-not_repaired : goal.returns-clause-not_repaired
returns-clause-not_repaired c v = let gone = ap (λ (s : State). length s.links.rows) v.repaired in absurd (omega (arith, gone))

pub returns-clause-out_of_order : goal.returns-clause-out_of_order
returns-clause-out_of_order c v = let later = v.ordered.2.0 in absurd (omega (arith, later))

pub returns-clause-of_no_service : goal.returns-clause-of_no_service
returns-clause-of_no_service c v = false≢true v.intercepts

pub returns-clause-past_the_last : goal.returns-clause-past_the_last
returns-clause-past_the_last c v = let counted = v.counted in absurd (omega (arith, counted))

pub returns-clause-no_protocol : goal.returns-clause-no_protocol
unfolding digits
returns-clause-no_protocol c = refl

pub returns-clause-present : goal.returns-clause-present
unfolding digits
returns-clause-present c = refl

pub returns-clause-absent : goal.returns-clause-absent
unfolding digits
returns-clause-absent c = refl

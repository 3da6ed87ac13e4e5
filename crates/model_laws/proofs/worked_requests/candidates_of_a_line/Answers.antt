use Rattle.std.proofs.Common.{◌≡◌, ℕ, ◌<◌, [], ◌∷◌, ◌⊎◌, inl, inr, Option, Some, None, refl, sym, ap, arith}
use Rattle.std.proofs.lemmas.Bool.{false≢true}
use Rattle.std.proofs.lemmas.Option.{same_Some}
use Rattle.ctrl_model.specs.declared.refusals.Denial.{Denial}
use Rattle.ctrl_model.specs.Networks.{network_of}
use Rattle.ctrl_model.specs.Choices.{Ask, Candidate, Any}
use Rattle.ctrl_model.specs.WorkedStates.{line, line_from_two, line_stopped_at_r2}
use Rattle.model_laws.proofs.CandidateLaws.{candidates-are, best-is}
use Rattle.model_laws.proofs.RuleLaws.{first_rule-none}
use Rattle.model_laws.proofs.DenialLaws.{first_rule-is}
use Rattle.ctrl_model.specs.declared.refusals.Denial.TheVariants.{NoPath}
use Rattle.model_laws.proofs.worked_requests.candidates_of_a_line.Goals as goal

-- ann's request for web
abbrev asks : Ask
asks = record { identity = Some 1; service = Some 1; ingress = Any; instance = [] }

-- the way over both links, at a total
abbrev way : ℕ → Candidate
way total = record { precedence = 2; total = total; terminator = 1; ingress = 1; links = 1 ∷ 2 ∷ [] }

-- from the second router over one link
abbrev nearer : Candidate
nearer = record { precedence = 2; total = 21; terminator = 1; ingress = 2; links = 2 ∷ [] }

totals_apart : (a b : Candidate) → (a.total ≡ b.total → ⊥) → a ≡ b → ⊥
totals_apart a b apart e = apart (ap (λ (x : Candidate). x.total) e)

numbers_apart : (a b : ℕ) → a < b → b ≡ a → ⊥
numbers_apart a b h e = absurd (omega arith)

only_one : (way 42 ≡ way 41) ⊎ ⊥ → ⊥
only_one (inl e) = totals_apart (way 42) (way 41) (numbers_apart 41 42 (omega arith)) e
only_one (inr h) = h

not_nearer : ◌≡◌ {A = Option Candidate} (Some nearer) (Some (way 42)) → ⊥
not_nearer e = totals_apart (way 42) nearer (numbers_apart 21 42 (omega arith)) (sym (same_Some nearer (way 42) e))

some_rule : ◌≡◌ {A = Option Denial} (Some NoPath) None → ⊥
some_rule e = absurd (cc)

no_rule : ◌≡◌ {A = Option Denial} None (Some NoPath) → ⊥
no_rule e = absurd (cc)

pub returns-clause-ingress : goal.returns-clause-ingress
returns-clause-ingress c = record { present = inl refl; wanted = refl; is_shared_by_both = refl; is_connected = refl }

pub returns-clause-not_shared : goal.returns-clause-not_shared
returns-clause-not_shared c g = false≢true g.is_shared_by_both

pub returns-clause-not_named : goal.returns-clause-not_named
returns-clause-not_named c g = false≢true g.wanted

pub returns-clause-admissible : goal.returns-clause-admissible
returns-clause-admissible c = record { present = inl refl; is_counted_for = refl; serves = refl }

pub returns-clause-other_instance : goal.returns-clause-other_instance
returns-clause-other_instance c a = false≢true a.is_counted_for

pub returns-clause-candidate : goal.returns-clause-candidate
returns-clause-candidate c = (candidates-are (network_of line) asks (way 42)).0 (inl refl)

pub returns-clause-lower_total : goal.returns-clause-lower_total
returns-clause-lower_total c k = only_one ((candidates-are (network_of line) asks (way 41)).1 k)

pub returns-clause-best : goal.returns-clause-best
returns-clause-best c = (best-is (network_of line) asks (way 42)).0 refl

pub returns-clause-not_best : goal.returns-clause-not_best
returns-clause-not_best c b = not_nearer ((best-is (network_of line_from_two) asks (way 42)).1 b)

pub returns-clause-granted : goal.returns-clause-granted
returns-clause-granted c = (first_rule-none (network_of line) asks).0 refl

pub returns-clause-not_granted : goal.returns-clause-not_granted
returns-clause-not_granted c g = some_rule ((first_rule-none (network_of line_stopped_at_r2) asks).1 g)

pub returns-clause-denied : goal.returns-clause-denied
returns-clause-denied c = (first_rule-is (network_of line_stopped_at_r2) asks NoPath).0 refl

pub returns-clause-not_denied : goal.returns-clause-not_denied
returns-clause-not_denied c d = no_rule ((first_rule-is (network_of line) asks NoPath).1 d)

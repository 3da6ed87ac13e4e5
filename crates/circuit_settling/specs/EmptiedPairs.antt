-- The pairs that are granted no more by some steps (docs/RULES.md, "Policies and grants").
use Rattle.std.specs.Prelude.{◌≡◌, ℕ, ◌==◌, nat_lt, Bool, not, ◌&&◌, List, [], length}
use Rattle.ctrl_model.specs.declared.kinds.Relation.{Relation}
use Rattle.ctrl_model.specs.declared.kinds.Relation.TheVariants.{Dial, Bind, IdentityRouter, ServiceRouter}
use Rattle.grant_denorm.specs.declared.deltas.Delta.{Delta}
use Rattle.grant_denorm.specs.CountsAfter.{count_after}
use Rattle.grant_denorm.specs.Deltas.{downs}
use Rattle.grant_denorm.specs.PairCounts.{count_of}
use Rattle.circuit_settling.specs.declared.granting.GrantsAfter.{GrantsAfter}
use Rattle.circuit_settling.specs.declared.emptying.Pairs.{Pairs}

-- The counts of a relation, as they will be.
abbrev pub counts_after : Relation → GrantsAfter → ℕ → ℕ → ℕ
counts_after Dial g = count_after g.dial
counts_after Bind g = count_after g.bind
counts_after IdentityRouter g = count_after g.identity_router
counts_after ServiceRouter g = count_after g.service_router

-- The pairs of a relation.
abbrev pub pairs_of : Relation → Pairs → List ((ℕ × ℕ) × ℕ)
pairs_of Dial g = g.dial
pairs_of Bind g = g.bind
pairs_of IdentityRouter g = g.identity_router
pairs_of ServiceRouter g = g.service_router

-- The pairs that have a count now, beside what they will have.
abbrev pub pairs_before : GrantsAfter → Pairs
pairs_before g = record { dial = g.dial.before; bind = g.bind.before; identity_router = g.identity_router.before; service_router = g.service_router.before }

-- Exactly those pairs have a count at which some steps go down and that have none after them.
abbrev pub TellEmptied : List Delta → (ℕ → ℕ → ℕ) → List ((ℕ × ℕ) × ℕ) → Type 0
TellEmptied ds after pairs = (a b : ℕ) → nat_lt 0 (count_of pairs a b) ≡ (nat_lt 0 (downs ds a b) && (after a b == 0))

-- Whether a step goes down at a pair that has no count after all steps, and that some counts do not tell yet.
abbrev pub empties : (ℕ → ℕ → ℕ) → List ((ℕ × ℕ) × ℕ) → Delta → Bool
empties after pairs d = not d.up && ((after d.a d.b == 0) && (count_of pairs d.a d.b == 0))

-- Whether no pair has a count.
abbrev pub has_no_pair : Pairs → Bool
has_no_pair g = (length g.dial == 0) && ((length g.bind == 0) && ((length g.identity_router == 0) && (length g.service_router == 0)))

-- No pair of any relation.
abbrev pub no_pairs : Pairs
no_pairs = record { dial = []; bind = []; identity_router = []; service_router = [] }

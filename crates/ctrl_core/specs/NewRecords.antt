-- Why the records that one change adds cannot join (docs/PROMISES.md, "The core"). Only private functions and
-- proofs of this crate cite this file.
use Rattle.std.specs.Prelude.{◌≡◌, ℕ, Bool, true, List, None}
use Rattle.std.specs.declared.option.Option.{Option}
use Rattle.ctrl_model.specs.declared.kinds.Kind.{Kind}
use Rattle.ctrl_model.specs.declared.kinds.Kind.TheVariants as kind
use Rattle.ctrl_model.specs.State.{State, Policy}
use Rattle.ctrl_model.specs.ValidState.{is_valid_entity}
use Rattle.entity_commands.specs.EntityChanges.{is_plain_kind}
use Rattle.entity_store.specs.declared.changes.EntityChange.TheVariants as entity
use Rattle.policy_store.specs.declared.changes.PolicyChange.TheVariants as policy
use Rattle.policy_store.specs.PolicyTables.{is_policy_kind}
use Rattle.fabric_graph.specs.declared.changes.LinkChange.TheVariants as link
use Rattle.terminators.specs.declared.changes.TermChange.TheVariants as term
use Rattle.circuits.specs.declared.changes.CircuitChange.TheVariants as circuit
use Rattle.state_building.specs.declared.flaws.Flaw.{Flaw}
use Rattle.state_building.specs.JoinedRecords.{flaw_of, is_sound, is_sound_policy}
use Rattle.core_stores.specs.declared.changes.Change.{Change}
use Rattle.core_stores.specs.declared.changes.Change.TheVariants as change

-- A change adds a record of a kind.
abbrev pub IsNew : Kind → Change → Type 0
IsNew k (change.Entity (entity.Add j name attributes)) = (j ≡ k) × (is_plain_kind j ≡ true)
IsNew k (change.Policy (policy.Add j p)) = (j ≡ k) × (is_policy_kind j ≡ true)
IsNew k (change.Link (link.Add l)) = kind.Link ≡ k
IsNew k (change.Terminator (term.Add e)) = kind.Terminator ≡ k
IsNew k (change.Circuit (circuit.Add c)) = kind.Circuit ≡ k
IsNew k _ = ⊥

-- Whether the record that a change adds is valid as far as that can be told of it alone.
abbrev pub is_sound_new : Change → Bool
is_sound_new (change.Entity (entity.Add k name attributes)) = is_valid_entity (record { name = name; attributes = attributes })
is_sound_new (change.Policy (policy.Add k p)) = is_sound_policy k p
is_sound_new (change.Link (link.Add l)) = is_sound kind.Link l
is_sound_new (change.Terminator (term.Add e)) = is_sound kind.Terminator e
is_sound_new _ = true

-- The flaw of an identity or a service.
abbrev pub plain_flaw_of : ℕ → Kind → ℕ → List ℕ → List (List ℕ) → State → Option Flaw
plain_flaw_of end kind.Identity n name attributes s = flaw_of (λ k. end) kind.Identity n (record { name = name; attributes = attributes }) s
plain_flaw_of end kind.Service n name attributes s = flaw_of (λ k. end) kind.Service n (record { name = name; attributes = attributes }) s
plain_flaw_of end _ n name attributes s = None

-- The flaw of a policy of a kind.
abbrev pub policy_flaw_of : ℕ → Kind → ℕ → Policy → State → Option Flaw
policy_flaw_of end kind.ServicePolicy n p s = flaw_of (λ k. end) kind.ServicePolicy n p s
policy_flaw_of end kind.EdgeRouterPolicy n p s = flaw_of (λ k. end) kind.EdgeRouterPolicy n p s
policy_flaw_of end kind.ServiceEdgeRouterPolicy n p s = flaw_of (λ k. end) kind.ServiceEdgeRouterPolicy n p s
policy_flaw_of end _ n p s = None

-- Why the record that a change adds cannot join a state under a number, where the next number of its kind will be this in the end.
abbrev pub new_flaw_of : ℕ → ℕ → Change → State → Option Flaw
new_flaw_of end n (change.Entity (entity.Add k name attributes)) s = plain_flaw_of end k n name attributes s
new_flaw_of end n (change.Policy (policy.Add k p)) s = policy_flaw_of end k n p s
new_flaw_of end n (change.Link (link.Add l)) s = flaw_of (λ k. end) kind.Link n l s
new_flaw_of end n (change.Terminator (term.Add e)) s = flaw_of (λ k. end) kind.Terminator n e s
new_flaw_of end n (change.Circuit (circuit.Add c)) s = flaw_of (λ k. end) kind.Circuit n c s
new_flaw_of end n _ s = None

-- The steps of a change of entities lead to the counts of the state after it.
use Rattle.std.proofs.Common.{◌≡◌, ℕ, Bool, true, not, List, Some, refl, sym, ◌∙◌}
use Rattle.std.proofs.lemmas.Bool.{false≢true}
use Rattle.ctrl_model.specs.declared.kinds.Kind.{Kind}
use Rattle.ctrl_model.specs.declared.kinds.Kind.TheVariants as kind
use Rattle.ctrl_model.specs.Numbered.{is_present}
use Rattle.ctrl_model.specs.EntityCommands.{new_router}
use Rattle.ctrl_model.specs.RecordCommands.{after_create}
use Rattle.ctrl_model.specs.Settling.{settle}
use Rattle.ctrl_model.specs.State.{State}
use Rattle.ctrl_model.specs.Tables.{table, named, is_entity_kind}
use Rattle.entity_store.specs.TableRules.{is_there}
use Rattle.entity_commands.specs.EntityChanges.{is_plain_kind, with_plain, with_described, with_described_router, with_marked, without_named}
use Rattle.entity_commands.proofs.EntityPlans.{named_as, there_from_number}
use Rattle.policy_store.specs.declared.steps.GrantSteps.{GrantSteps}
use Rattle.policy_store.specs.StepsOfRelations.{HasNoSteps}
use Rattle.core_stores.specs.declared.stores.Stores.{Stores}
use Rattle.ctrl_core.specs.KeptState.{Keeps}
use Rattle.core_stores.specs.StoredState.{state_of}
use Rattle.grant_steps.specs.LeadingSteps.{LeadAllCounts}
use Rattle.grant_steps.specs.EntitySteps.{Coming, Going, IsDescribed}
use Rattle.ctrl_core.proofs.EntityCounts.{added_leads, added_router_leads, described_leads, described_router_leads, marked_leads, removed_leads}
use Rattle.ctrl_core.proofs.PlanLaws.{settled_lead}
use Rattle.grant_steps.proofs.StepsInState.{entity_steps_in_state}

-- steps to the counts after a change are steps to those of the settled state
pub settled_leads : (s t : State) (steps : GrantSteps) → LeadAllCounts s t steps → LeadAllCounts s (settle t) steps
settled_leads s t steps leads r = settled_lead r s t _ (leads r)

-- ---- entities

pub plain_comes : (k : Kind) (name : List ℕ) (attributes : List (List ℕ)) (st : Stores) (steps : GrantSteps) → is_plain_kind k ≡ true → Keeps st → Coming k name attributes st.entities st.policies steps
    → LeadAllCounts (state_of st) (with_plain k name attributes (state_of st)) steps
plain_comes kind.Identity name attributes st steps plain keeps is = added_leads kind.Identity name attributes (state_of st) steps refl keeps.valid (entity_steps_in_state kind.Identity _ _ st.entities st.policies (state_of st) steps is)
plain_comes kind.Service name attributes st steps plain keeps is = added_leads kind.Service name attributes (state_of st) steps refl keeps.valid (entity_steps_in_state kind.Service _ _ st.entities st.policies (state_of st) steps is)
plain_comes _ name attributes st steps plain keeps is = absurd (false≢true plain)

pub router_comes : (name : List ℕ) (attributes : List (List ℕ)) (cost : ℕ) (through : Bool) (st : Stores) (steps : GrantSteps) → Keeps st → Coming kind.Router name attributes st.entities st.policies steps
    → LeadAllCounts (state_of st) (after_create kind.Router (new_router name attributes cost (not through)) (state_of st)) steps
router_comes name attributes cost through st steps keeps is =
    added_router_leads name attributes cost (not through) (state_of st) steps keeps.valid (entity_steps_in_state kind.Router _ _ st.entities st.policies (state_of st) steps is)

pub plain_described : (k : Kind) (n : ℕ) (attributes : List (List ℕ)) (st : Stores) (steps : GrantSteps) → is_plain_kind k ≡ true → Keeps st → IsDescribed k n attributes st.entities st.policies steps
    → LeadAllCounts (state_of st) (with_described k n attributes (state_of st)) steps
plain_described kind.Identity n attributes st steps plain keeps is = described_leads kind.Identity n attributes (state_of st) steps refl keeps.valid (entity_steps_in_state kind.Identity n _ st.entities st.policies (state_of st) steps is)
plain_described kind.Service n attributes st steps plain keeps is = described_leads kind.Service n attributes (state_of st) steps refl keeps.valid (entity_steps_in_state kind.Service n _ st.entities st.policies (state_of st) steps is)
plain_described _ n attributes st steps plain keeps is = absurd (false≢true plain)

pub router_described : (n : ℕ) (attributes : List (List ℕ)) (cost : ℕ) (through connected : Bool) (st : Stores) (steps : GrantSteps) → Keeps st → IsDescribed kind.Router n attributes st.entities st.policies steps
    → LeadAllCounts (state_of st) (with_described_router n attributes cost through connected (state_of st)) steps
router_described n attributes cost through connected st steps keeps is =
    described_router_leads n attributes (λ r. record r { attributes = attributes; cost = cost; through = through; connected = connected }) (state_of st) steps keeps.valid (λ r. refl) (entity_steps_in_state kind.Router n _ st.entities st.policies (state_of st) steps is)

pub router_marked : (n cost : ℕ) (through connected : Bool) (st : Stores) (steps : GrantSteps) → HasNoSteps steps
    → LeadAllCounts (state_of st) (with_marked n cost through connected (state_of st)) steps
router_marked n cost through connected st steps none =
    marked_leads n (λ r. record r { cost = cost; through = through; connected = connected }) (state_of st) steps (λ r. refl) none

pub entity_goes : (k : Kind) (n : ℕ) (name : List ℕ) (st : Stores) (steps : GrantSteps) → is_entity_kind k ≡ true → named k (state_of st) name ≡ Some n → Keeps st
    → Going k n st.entities st.policies steps
    → LeadAllCounts (state_of st) (without_named k n name (state_of st)) steps
entity_goes kind.Identity n name st steps is_kind found keeps is = removed_leads kind.Identity n name (state_of st) steps refl keeps.valid found (entity_steps_in_state kind.Identity n _ st.entities st.policies (state_of st) steps is)
entity_goes kind.Service n name st steps is_kind found keeps is = removed_leads kind.Service n name (state_of st) steps refl keeps.valid found (entity_steps_in_state kind.Service n _ st.entities st.policies (state_of st) steps is)
entity_goes kind.Router n name st steps is_kind found keeps is = removed_leads kind.Router n name (state_of st) steps refl keeps.valid found (entity_steps_in_state kind.Router n _ st.entities st.policies (state_of st) steps is)
entity_goes _ n name st steps is_kind found keeps is = absurd (false≢true is_kind)

-- what is there in the state is there in the store
pub plain_is_there : (k : Kind) (n : ℕ) (st : Stores) → is_plain_kind k ≡ true → is_present (table k (state_of st)).rows n ≡ true → is_there k n st.entities ≡ true
plain_is_there kind.Identity n st plain there = there
plain_is_there kind.Service n st plain there = there
plain_is_there _ n st plain there = absurd (false≢true plain)

pub plain_is_entity : (k : Kind) → is_plain_kind k ≡ true → is_entity_kind k ≡ true
plain_is_entity kind.Identity plain = refl
plain_is_entity kind.Service plain = refl
plain_is_entity _ plain = absurd (false≢true plain)

pub named_is_there : (k : Kind) (n : ℕ) (name : List ℕ) (st : Stores) → is_entity_kind k ≡ true → named k (state_of st) name ≡ Some n → is_there k n st.entities ≡ true
named_is_there k n name st is_kind found =
    there_from_number k name st.entities n (sym (named_as k name (record { entities = st.entities; rest = state_of st }) is_kind) ∙ found)

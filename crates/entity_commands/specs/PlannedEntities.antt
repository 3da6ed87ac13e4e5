-- What the private functions of planning answer. No public contract cites it.
use Rattle.std.specs.Prelude.{ℕ, not, List, []}
use Rattle.std.specs.declared.option.Option.{Option}
use Rattle.ctrl_model.specs.declared.kinds.Kind.{Kind}
use Rattle.ctrl_model.specs.declared.kinds.Kind.TheVariants as kind
use Rattle.ctrl_model.specs.declared.refusals.Refusal.{Refusal}
use Rattle.ctrl_model.specs.declared.refusals.Refusal.TheVariants.{Full}
use Rattle.ctrl_model.specs.declared.replies.Reply.{Reply}
use Rattle.ctrl_model.specs.declared.replies.Reply.TheVariants.{Done}
use Rattle.ctrl_model.specs.State.{State}
use Rattle.ctrl_model.specs.ValidState.{ValidState}
use Rattle.ctrl_model.specs.Rules.{or_then, refuse_if, exists_if_present}
use Rattle.ctrl_model.specs.EntityCommands.{create_identity, create_service, update_identity, update_service}
use Rattle.model_laws.specs.declared.plans.Plan.{Plan}
use Rattle.entity_store.specs.EntityTables.{Tables, number_of}
use Rattle.entity_store.specs.AttributeUses.{has_attribute_room}
use Rattle.entity_store.specs.HeldUses.{with_entities, HoldsPolicies}
use Rattle.entity_store.specs.TableRules.{has_kind_room, attributes_at}
use Rattle.entity_store.specs.declared.changes.EntityChange.{EntityChange}
use Rattle.entity_commands.specs.EntityPlans.{PlansEntities}

-- A plan of an answer in every valid state with these entities, of whose policies these uses are held.
abbrev pub Answers : (State → Reply × State) → Tables → Plan EntityChange → Type 0
Answers answer t p = (s : State) → ValidState (with_entities t s) → HoldsPolicies t s → PlansEntities p (answer (with_entities t s)) (with_entities t s)

-- The answer to the command that makes an identity or a service.
abbrev pub answer_add : Kind → List ℕ → List (List ℕ) → State → Reply × State
answer_add kind.Identity name attributes s = create_identity name attributes s
answer_add kind.Service name attributes s = create_service name attributes s
answer_add _ name attributes s = (Done, s)

-- The answer to the command that updates an identity or a service.
abbrev pub answer_update : Kind → List ℕ → List (List ℕ) → State → Reply × State
answer_update kind.Identity name attributes s = update_identity name attributes s
answer_update kind.Service name attributes s = update_service name attributes s
answer_update _ name attributes s = (Done, s)

-- The refusal of a new entity: its name is taken, its kind is full, or too many attributes would be in use.
abbrev pub refusal_of_add : Kind → List ℕ → List (List ℕ) → Tables → Option Refusal
refusal_of_add k name attributes t =
    or_then (exists_if_present (number_of k name t))
    (or_then (refuse_if (not (has_kind_room k t)) (Full k))
    (refuse_if (not (has_attribute_room t [] attributes)) (Full kind.Attribute)))

-- The refusal of other attributes of a present entity: too many would be in use.
abbrev pub refusal_of_describe : Kind → ℕ → List (List ℕ) → Tables → Option Refusal
refusal_of_describe k n attributes t = refuse_if (not (has_attribute_room t (attributes_at k n t) attributes)) (Full kind.Attribute)

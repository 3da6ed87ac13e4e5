-- What the private functions of planning answer. No public contract cites it.
use Rattle.std.specs.Prelude.{◌≡◌, ℕ, ◌<◌, ◌≤◌, ⊤, Bool, true, false, not, cond, List, [], ◌++◌, length, slice_index_or, None, Some, Ok, Err}
use Rattle.std.specs.declared.result.Result.{Result}
use Rattle.std.specs.declared.option.Option.{Option}
use Rattle.ctrl_model.specs.declared.commands.Command.{Command}
use Rattle.ctrl_model.specs.declared.kinds.Kind.{Kind}
use Rattle.ctrl_model.specs.declared.kinds.Kind.TheVariants as kind
use Rattle.ctrl_model.specs.declared.kinds.Relation.{Relation}
use Rattle.ctrl_model.specs.declared.kinds.Relation.TheVariants.{IdentityRouter, ServiceRouter}
use Rattle.ctrl_model.specs.declared.refusals.Field.{Field}
use Rattle.ctrl_model.specs.declared.refusals.Field.TheVariants as field
use Rattle.ctrl_model.specs.declared.refusals.Refusal.{Refusal}
use Rattle.ctrl_model.specs.declared.refusals.Refusal.TheVariants.{Exists, Unknown, UnknownRef, Full}
use Rattle.ctrl_model.specs.declared.replies.Reply.{Reply}
use Rattle.ctrl_model.specs.declared.replies.Reply.TheVariants.{Done}
use Rattle.ctrl_model.specs.State.{State, Policy}
use Rattle.ctrl_model.specs.Tables.{left_kind, right_kind}
use Rattle.ctrl_model.specs.ValidState.{ValidState}
use Rattle.ctrl_model.specs.Rules.{refuse_if}
use Rattle.ctrl_model.specs.RecordCommands.{refusal_of_create, refusal_of_update, absent_names, roles_of}
use Rattle.ctrl_model.specs.PolicyCommands.{replaced_by, create_service_policy, create_edge_router_policy, create_service_edge_router_policy, update_service_policy, update_edge_router_policy, update_service_edge_router_policy}
use Rattle.model_laws.specs.declared.plans.Plan.{Plan}
use Rattle.entity_store.specs.EntityTables.{Tables}
use Rattle.entity_store.specs.AttributeUses.{has_attribute_room}
use Rattle.policy_store.specs.declared.changes.PolicyChange.{PolicyChange}
use Rattle.policy_store.specs.declared.policies.PolicyFault.{PolicyFault}
use Rattle.policy_store.specs.declared.policies.PolicyFault.TheVariants as fault
use Rattle.policy_store.specs.PolicyTables.{PolicyTables}
use Rattle.policy_commands.specs.PutPolicies.{may_put}
use Rattle.policy_commands.specs.PolicyStates.{HoldsUses, over}
use Rattle.policy_commands.specs.PolicyPlans.{PlansPolicies, is_edge_router_policy_command}
use Rattle.ctrl_model.specs.Limits.{most_entries}

-- A plan of an answer in every valid state with these entities and these policies, whose uses of attributes are held.
abbrev pub Answers : (State → Reply × State) → Tables → PolicyTables → Plan PolicyChange → Type 0
Answers answer t p plan = (s : State) → ValidState (over t p s) → HoldsUses t p → PlansPolicies plan (answer (over t p s)) (over t p s)

-- The refusal of a new policy.
abbrev pub refusal_of_new : Kind → Policy → State → Option Refusal
refusal_of_new kind.ServicePolicy p s = refusal_of_create kind.ServicePolicy p s
refusal_of_new kind.EdgeRouterPolicy p s = refusal_of_create kind.EdgeRouterPolicy p s
refusal_of_new kind.ServiceEdgeRouterPolicy p s = refusal_of_create kind.ServiceEdgeRouterPolicy p s
refusal_of_new k p s = Some (Full k)

-- The answer to the command that makes a policy.
abbrev pub answer_create : Kind → Policy → State → Reply × State
answer_create kind.ServicePolicy p s = create_service_policy p s
answer_create kind.EdgeRouterPolicy p s = create_edge_router_policy p s
answer_create kind.ServiceEdgeRouterPolicy p s = create_service_edge_router_policy p s
answer_create _ p s = (Done, s)

-- The refusal of other parts of a policy.
abbrev pub refusal_of_replace : Kind → Policy → State → Option Refusal
refusal_of_replace kind.ServicePolicy p s = refusal_of_update kind.ServicePolicy p.name (replaced_by p) (absent_names kind.ServicePolicy p s) s
refusal_of_replace kind.EdgeRouterPolicy p s = refusal_of_update kind.EdgeRouterPolicy p.name (replaced_by p) (absent_names kind.EdgeRouterPolicy p s) s
refusal_of_replace kind.ServiceEdgeRouterPolicy p s = refusal_of_update kind.ServiceEdgeRouterPolicy p.name (replaced_by p) (absent_names kind.ServiceEdgeRouterPolicy p s) s
refusal_of_replace k p s = Some (Full k)

-- The answer to the command that replaces the parts of a policy.
abbrev pub answer_replace : Kind → Policy → State → Reply × State
answer_replace kind.ServicePolicy p s = update_service_policy p s
answer_replace kind.EdgeRouterPolicy p s = update_edge_router_policy p s
answer_replace kind.ServiceEdgeRouterPolicy p s = update_service_edge_router_policy p s
answer_replace _ p s = (Done, s)

-- The field of a role list: the left or the right one of a kind of policy.
abbrev pub roles_field : Kind → Bool → Field
roles_field k right = roles_of (cond right (right_kind k) (left_kind k))

-- The `@` names of a side of a policy: of the left one or of the right one.
abbrev pub ids_of : Bool → Policy → List (List ℕ)
ids_of right p = cond right p.right.ids p.left.ids

-- A policy whose sides are as short as a role list.
pub record AreShort (p : Policy) : Type 0 where
  pub left : length p.left.ids ≤ most_entries
  pub right : length p.right.ids ≤ most_entries

-- The fault of an absent `@` name tells a place of the side.
abbrev pub IsPlaced : PolicyFault → Policy → Type 0
IsPlaced (fault.UnknownRef right place) p = place < length (ids_of right p)
IsPlaced _ p = ⊤

-- The refusal that a fault of the store of policies is.
abbrev pub refusal_for : Kind → Policy → PolicyFault → Refusal
refusal_for k p fault.Exists = Exists
refusal_for k p fault.Unknown = Unknown field.Name
refusal_for k p (fault.UnknownRef right place) = UnknownRef (roles_field k right) (slice_index_or (ids_of right p) place [])
refusal_for k p (fault.Full of_kind) = Full of_kind

-- The refusal of a policy that the store judges so, where some uses of attributes go: too many would be in use.
abbrev pub refusal_judged : Kind → Policy → List (List ℕ) → Tables → Result ⊤ PolicyFault → Option Refusal
refusal_judged k p gone t (Ok u) = refuse_if (not (has_attribute_room t gone (p.left.attributes ++ p.right.attributes))) (Full kind.Attribute)
refusal_judged k p gone t (Err f) = Some (refusal_for k p f)

-- The refusal of a policy that is put, where some uses of attributes go.
abbrev pub refusal_to_put : Kind → Policy → Bool → List (List ℕ) → PolicyTables → Tables → Option Refusal
refusal_to_put k p fresh gone t e = refusal_judged k p gone e (may_put k p fresh t e)

-- The kind of a policy on routers that a command is on, and its relation: of an edge-router policy, or else of a service-edge-router
-- policy.
abbrev pub router_kind : Command → Kind × Relation
router_kind c = cond (is_edge_router_policy_command c) (kind.EdgeRouterPolicy, IdentityRouter) (kind.ServiceEdgeRouterPolicy, ServiceRouter)

-- Whether what the store judges of a policy is told with memory: it may be put, and then it is copied, or an absent `@` name is told.
abbrev pub needs_memory : Result ⊤ PolicyFault → Bool
needs_memory (Ok u) = true
needs_memory (Err (fault.UnknownRef right place)) = true
needs_memory (Err f) = false

-- What becomes of a policy, by its refusal, if there is one: an equal one is put, or that refusal is told.
abbrev pub IsJudged : Policy → Option Refusal → Result Policy Refusal → Type 0
IsJudged p refusal (Ok q) = (q ≡ p) × (refusal ≡ None)
IsJudged p refusal (Err r) = refusal ≡ Some r

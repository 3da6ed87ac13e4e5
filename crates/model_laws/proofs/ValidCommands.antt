-- A valid state stays valid: each command's own law, put together for every command that some body spells.
use Rattle.std.proofs.Common.{◌≡◌, ℕ, List, true, false, ◌&&◌, Option, None, Some, inl, refl}
use Rattle.std.proofs.lemmas.Bool.{and_parts, and_from}
use Rattle.ctrl_model.specs.declared.commands.Command.{Command}
use Rattle.ctrl_model.specs.declared.commands.Command.TheVariants as command
use Rattle.ctrl_model.specs.declared.kinds.Kind.{Kind}
use Rattle.ctrl_model.specs.declared.kinds.Kind.TheVariants as kind
use Rattle.ctrl_model.specs.declared.kinds.Relation.{Relation}
use Rattle.ctrl_model.specs.declared.kinds.Semantic.{Semantic}
use Rattle.ctrl_model.specs.declared.kinds.Side.{Side}
use Rattle.ctrl_model.specs.declared.kinds.Who.{Who}
use Rattle.ctrl_model.specs.declared.refusals.Field.TheVariants as field
use Rattle.ctrl_model.specs.declared.kinds.Relation.TheVariants.{IdentityRouter, ServiceRouter}
use Rattle.ctrl_model.specs.declared.refusals.Refusal.{Refusal}
use Rattle.ctrl_model.specs.declared.refusals.Refusal.TheVariants.{NotPermitted, Denied}
use Rattle.ctrl_model.specs.declared.replies.Reply.{Reply}
use Rattle.ctrl_model.specs.declared.replies.Reply.TheVariants.{Refused}
use Rattle.ctrl_model.specs.NameForm.{is_name, is_instance}
use Rattle.ctrl_model.specs.State.{State, Policy}
use Rattle.ctrl_model.specs.SpelledCommands.{is_spelled}
use Rattle.ctrl_model.specs.ValueForms.{is_service_relation, is_side, is_number, is_cost, is_link_cost, is_latency, is_name_or_none}
use Rattle.ctrl_model.specs.InterceptForm.{is_intercept}
use Rattle.ctrl_model.specs.Rules.{shown}
use Rattle.ctrl_model.specs.Networks.{network_of}
use Rattle.ctrl_model.specs.Choices.{Ask, first_rule, best}
use Rattle.ctrl_model.specs.RecordCommands.{absent_names}
use Rattle.ctrl_model.specs.EntityCommands.{entity, new_router}
use Rattle.ctrl_model.specs.PolicyCommands.{replaced_by}
use Rattle.ctrl_model.specs.CircuitCommands.{ask_of, explain}
use Rattle.ctrl_model.specs.Permitted.{is_permitted}
use Rattle.ctrl_model.specs.Controller.{policy, carry, answer}
use Rattle.ctrl_model.specs.ValidState.{ValidState, may_relate, is_valid_policy_in}
use Rattle.ctrl_model.specs.Settling.{settle}
use Rattle.model_laws.specs.JudgedCircuits.{AreGranted}
use Rattle.model_laws.proofs.RevokedLaws.{revoke-settle, AreGranted-from}
use Rattle.model_laws.proofs.ValidLaws.{Follows, ValidState-settle, follows-holds}
use Rattle.model_laws.proofs.RefusalLaws.{cond-holds, decided-holds}
use Rattle.model_laws.proofs.RecordCommandLaws.{create-follows, delete-follows, update-follows, update_identity-follows, update_service-follows, update_router-follows, mark_router-follows, policy-valid, policy_in-valid, replaced_in-valid}
use Rattle.model_laws.proofs.LinkCommandLaws.{create_link-follows, set_link_cost-follows, report_latency-follows, report_state-follows, set_least_router_cost-follows}
use Rattle.model_laws.proofs.TerminatorCommandLaws.{create_terminator-follows, update_terminator-follows, delete_terminator-follows}
use Rattle.model_laws.proofs.CircuitCommandLaws.{create_circuit-follows, delete_circuit-follows}
use Rattle.model_laws.proofs.InterceptCommandLaws.{set_intercept-follows, clear_intercept-follows}

-- what is only shown leaves the state
shown-follows : (o : Option Refusal) (s : State) (reply : Reply) → ValidState s → Follows s (shown o s reply).1
shown-follows None s reply v = inl refl
shown-follows (Some r) s reply v = inl refl

explain-follows : (ask : Ask) (s : State) → ValidState s → Follows s (explain ask s).1
explain-follows ask s v = decided-holds (λ a. Follows s a.1) (first_rule (network_of s) ask) (best (network_of s) ask) (λ d. (Refused (Denied d), s)) _ (λ d. inl refl) (λ c none. inl refl)

-- a policy of a command is valid in a state that has the names of its sides
policy-fits : (k : Kind) (name : List ℕ) (relation : Relation) (semantic : Semantic) (left right : Side) (s : State) → (is_name name && (is_side left && is_side right)) ≡ true
    → may_relate k relation ≡ true → absent_names k (policy name relation semantic left right) s ≡ None → is_valid_policy_in k s (policy name relation semantic left right) ≡ true
policy-fits k name relation semantic left right s e related none =
    let named = and_parts (is_name name) (is_side left && is_side right) e in
    policy_in-valid k (policy name relation semantic left right) s (policy-valid name relation semantic left right named.0 named.1) related none

-- so it is in place of another
replaced-fits : (k : Kind) (name : List ℕ) (relation : Relation) (semantic : Semantic) (left right : Side) (s : State) → (is_name name && (is_side left && is_side right)) ≡ true
    → may_relate k relation ≡ true → absent_names k (policy name relation semantic left right) s ≡ None
    → (q : Policy) → is_valid_policy_in k s q ≡ true → is_valid_policy_in k s (replaced_by (policy name relation semantic left right) q) ≡ true
replaced-fits k name relation semantic left right s e related none q old =
    replaced_in-valid k (policy name relation semantic left right) q s (policy-fits k name relation semantic left right s e related none) old

-- the relation of a service policy, and the rest
service_parts : (name : List ℕ) (relation : Relation) (left right : Side) → (is_name name && (is_service_relation relation && (is_side left && is_side right))) ≡ true
    → (is_service_relation relation ≡ true) × ((is_name name && (is_side left && is_side right)) ≡ true)
service_parts name relation left right e =
    let named = and_parts (is_name name) (is_service_relation relation && (is_side left && is_side right)) e in
    let related = and_parts (is_service_relation relation) (is_side left && is_side right) named.1 in
    (related.0, and_from (is_name name) (is_side left && is_side right) named.0 related.1)

carry-follows : (c : Command) (s : State) → is_spelled c ≡ true → ValidState s → Follows s (carry c s).1
carry-follows command.Hello s e v = inl refl
carry-follows (command.CreateIdentity name attributes) s e v = create-follows kind.Identity (entity name attributes) s (λ _. e) v
carry-follows (command.UpdateIdentity name attributes) s e v = update_identity-follows name attributes s e v
carry-follows (command.DeleteIdentity name) s e v = delete-follows kind.Identity field.Name name s v
carry-follows (command.CreateService name attributes) s e v = create-follows kind.Service (entity name attributes) s (λ _. e) v
carry-follows (command.UpdateService name attributes) s e v = update_service-follows name attributes s e v
carry-follows (command.DeleteService name) s e v = delete-follows kind.Service field.Name name s v
carry-follows (command.CreateRouter name attributes cost no_traversal) s e v =
    create-follows kind.Router (new_router name attributes cost no_traversal) s (λ _. e) v
carry-follows (command.UpdateRouter name attributes cost no_traversal) s e v =
    update_router-follows name attributes cost no_traversal s e v
carry-follows (command.DeleteRouter name) s e v = delete-follows kind.Router field.Name name s v
carry-follows (command.ConnectRouter name) s e v = mark_router-follows name true s v
carry-follows (command.DisconnectRouter name) s e v = mark_router-follows name false s v
carry-follows (command.CreateServicePolicy name relation semantic left right) s e v =
    let parts = service_parts name relation left right e in
    create-follows kind.ServicePolicy (policy name relation semantic left right) s (policy-fits kind.ServicePolicy name relation semantic left right s parts.1 parts.0) v
carry-follows (command.UpdateServicePolicy name relation semantic left right) s e v =
    let parts = service_parts name relation left right e in
    update-follows kind.ServicePolicy name (replaced_by (policy name relation semantic left right)) (absent_names kind.ServicePolicy (policy name relation semantic left right) s) s (λ q. refl) (replaced-fits kind.ServicePolicy name relation semantic left right s parts.1 parts.0) v
carry-follows (command.DeleteServicePolicy name) s e v = delete-follows kind.ServicePolicy field.Name name s v
carry-follows (command.CreateEdgeRouterPolicy name semantic left right) s e v =
    create-follows kind.EdgeRouterPolicy (policy name IdentityRouter semantic left right) s (policy-fits kind.EdgeRouterPolicy name IdentityRouter semantic left right s e refl) v
carry-follows (command.UpdateEdgeRouterPolicy name semantic left right) s e v =
    update-follows kind.EdgeRouterPolicy name (replaced_by (policy name IdentityRouter semantic left right)) (absent_names kind.EdgeRouterPolicy (policy name IdentityRouter semantic left right) s) s (λ q. refl) (replaced-fits kind.EdgeRouterPolicy name IdentityRouter semantic left right s e refl) v
carry-follows (command.DeleteEdgeRouterPolicy name) s e v = delete-follows kind.EdgeRouterPolicy field.Name name s v
carry-follows (command.CreateServiceEdgeRouterPolicy name semantic left right) s e v =
    create-follows kind.ServiceEdgeRouterPolicy (policy name ServiceRouter semantic left right) s (policy-fits kind.ServiceEdgeRouterPolicy name ServiceRouter semantic left right s e refl) v
carry-follows (command.UpdateServiceEdgeRouterPolicy name semantic left right) s e v =
    update-follows kind.ServiceEdgeRouterPolicy name (replaced_by (policy name ServiceRouter semantic left right)) (absent_names kind.ServiceEdgeRouterPolicy (policy name ServiceRouter semantic left right) s) s (λ q. refl) (replaced-fits kind.ServiceEdgeRouterPolicy name ServiceRouter semantic left right s e refl) v
carry-follows (command.DeleteServiceEdgeRouterPolicy name) s e v = delete-follows kind.ServiceEdgeRouterPolicy field.Name name s v
carry-follows (command.CreateLink name a b cost latency_a latency_b) s e v =
    let named = and_parts (is_name name) _ e in
    let costs = and_parts (is_name b) _ (and_parts (is_name a) _ named.1).1 in
    create_link-follows name a b cost latency_a latency_b s named.0 costs.1 v
carry-follows (command.SetLinkCost link cost) s e v =
    set_link_cost-follows link cost s (and_parts (is_name link) (is_link_cost cost) e).1 v
carry-follows (command.ReportLatency link router latency) s e v =
    report_latency-follows link router latency s (and_parts (is_name router) (is_latency latency) (and_parts (is_name link) _ e).1).1 v
carry-follows (command.ReportState link router up) s e v = report_state-follows link router up s v
carry-follows (command.DeleteLink link) s e v = delete-follows kind.Link field.Link link s v
carry-follows (command.SetLeastRouterCost cost) s e v = set_least_router_cost-follows cost s e v
carry-follows (command.CreateTerminator service router instance host cost precedence) s e v =
    let named = and_parts (is_instance instance) _ (and_parts (is_name router) _ (and_parts (is_name service) _ e).1).1 in
    create_terminator-follows service router instance host cost precedence s named.0 (and_parts (is_name_or_none host) (is_cost cost) named.1).1 v
carry-follows (command.UpdateTerminator n cost precedence) s e v =
    update_terminator-follows n cost precedence s (and_parts (is_number n) (is_cost cost) e).1 v
carry-follows (command.DeleteTerminator n) s e v = delete_terminator-follows n s v
carry-follows (command.CreateCircuit identity service ingress instance) s e v =
    create_circuit-follows (ask_of identity service ingress instance s) s v
carry-follows (command.DeleteCircuit n) s e v = delete_circuit-follows n s v
carry-follows (command.Explain identity service ingress instance) s e v =
    explain-follows (ask_of identity service ingress instance s) s v
carry-follows (command.VerifyRoute identity service ingress instance chosen links potentials routers terminator total) s e v = inl refl
carry-follows (command.ShowGrants identity) s e v = shown-follows _ s _ v
carry-follows (command.ListServices identity) s e v = shown-follows _ s _ v
carry-follows command.ShowCounts s e v = inl refl
carry-follows (command.ShowCircuit n) s e v = shown-follows _ s _ v
carry-follows command.Compact s e v = inl refl
carry-follows (command.SetIntercept service intercept) s e v = set_intercept-follows service intercept s (and_parts (is_name service) (is_intercept intercept) e).1 v
carry-follows (command.ClearIntercept service) s e v = clear_intercept-follows service s v
carry-follows (command.Pick identity udp address port) s e v = shown-follows _ s _ v
carry-follows (command.ListClashes identity service) s e v = shown-follows _ s _ v

answer-follows : (who : Who) (c : Command) (s : State) → is_spelled c ≡ true → ValidState s → Follows s (answer who c s).1
answer-follows who c s e v = cond-holds (λ a. Follows s a.1) (is_permitted who c) (carry c s) (Refused NotPermitted, s) (carry-follows c s e v) (inl refl)

pub answer-valid : (who : Who) (c : Command) (s : State) → is_spelled c ≡ true → ValidState s → ValidState (answer who c s).1
answer-valid who c s e v = follows-holds ValidState ValidState-settle s (answer who c s).1 (answer-follows who c s e v) v

-- where what granted each circuit stands before a command, it stands after it
pub answer-granted : (who : Who) (c : Command) (s : State) → is_spelled c ≡ true → ValidState s → AreGranted s → AreGranted (answer who c s).1
answer-granted who c s e v =
    follows-holds AreGranted (λ effect o. AreGranted-from (settle effect) (revoke-settle effect (o.kinds kind.Terminator).numbers.ordered)) s (answer who c s).1 (answer-follows who c s e v)

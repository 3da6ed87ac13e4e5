-- A number is given once: a command that makes a record puts it under the next number of its kind, which rises by one, and no command
-- lowers a next number or makes a record anywhere else.
use Rattle.std.proofs.Common.{◌≡◌, ◌≢◌, ℕ, ◌+◌, ◌<◌, ◌≤◌, ◌⊎◌, inl, inr, true, false, List, Option, None, Some, refl, sym, ◌∙◌, subst, arith}
use Rattle.std.proofs.lemmas.Bool.{cases_eq}
use Rattle.ctrl_model.specs.declared.commands.Command.{Command}
use Rattle.ctrl_model.specs.declared.commands.Command.TheVariants as command
use Rattle.ctrl_model.specs.declared.intercepts.Intercept.{Intercept}
use Rattle.ctrl_model.specs.declared.kinds.Kind.{Kind}
use Rattle.ctrl_model.specs.declared.kinds.Kind.TheVariants as kind
use Rattle.ctrl_model.specs.declared.kinds.Relation.TheVariants.{IdentityRouter, ServiceRouter}
use Rattle.ctrl_model.specs.declared.kinds.Who.{Who}
use Rattle.ctrl_model.specs.declared.refusals.Field.{Field}
use Rattle.ctrl_model.specs.declared.refusals.Field.TheVariants as field
use Rattle.ctrl_model.specs.declared.refusals.Refusal.{Refusal}
use Rattle.ctrl_model.specs.declared.refusals.Refusal.TheVariants.{NotPermitted}
use Rattle.ctrl_model.specs.declared.replies.Reply.{Reply}
use Rattle.ctrl_model.specs.declared.replies.Reply.TheVariants.{Refused, Done, Made}
use Rattle.ctrl_model.specs.Numbered.{Table, at, with_at, with_last, without, no_rows, with_new, with_edit, with_removed}
use Rattle.ctrl_model.specs.State.{State}
use Rattle.ctrl_model.specs.Tables.{Record, table, with_table, named}
use Rattle.ctrl_model.specs.Settling.{settle, revoke, repair}
use Rattle.ctrl_model.specs.Rules.{carried_out, shown, at_number}
use Rattle.ctrl_model.specs.RecordCommands.{create, update, delete, refusal_of_update, absent_names, after_create, after_edit, after_remove, after_update, forgotten, without_intercept}
use Rattle.ctrl_model.specs.EntityCommands.{described, described_router, marked}
use Rattle.ctrl_model.specs.PolicyCommands.{replaced_by}
use Rattle.ctrl_model.specs.LinkCommands.{refusal_of_create_link, after_create_link, refusal_of_report, with_latency, after_report_latency}
use Rattle.ctrl_model.specs.TerminatorCommands.{refusal_of_create_terminator, after_create_terminator}
use Rattle.ctrl_model.specs.Permitted.{is_permitted}
use Rattle.ctrl_model.specs.Controller.{policy, carry, answer}
use Rattle.ctrl_model.proofs.NumberedLaws.{at-with_last-other}
use Rattle.model_laws.specs.TouchedTables.{GivesNext}
use Rattle.model_laws.proofs.AbsentRecords.{at-filter-none, at-edit_at-none, at-map_each-none}
use Rattle.model_laws.proofs.KindLaws.{with_table-holds}
use Rattle.model_laws.proofs.RefusalLaws.{carried_out-holds, at_number-holds, cond-holds, decided-holds}

-- the tables of a state follow those of another
abbrev pub AllFollow : State → State → Type 0
AllFollow s t = (k : Kind) → GivesNext (table k s) (table k t)

alike : {R : Type 0} (t : Table R) → GivesNext t t
alike t = record { rises = omega arith; given = λ m e. inl e }

same : (s : State) → AllFollow s s
same s k = alike (table k s)

-- one table follows its own, and the others stay
other_table : (s : State) (k : Kind) (t : Table (Record k)) → GivesNext (table k s) t → AllFollow s (with_table k t s)
other_table s k t h = with_table-holds (λ j v. GivesNext (table j s) v) s k t (alike no_rows) h (same s)

one_more : (k : Kind) (r : Record k) (s : State) → AllFollow s (after_create k r s)
one_more k r s = other_table s k (with_new r (table k s)) (record { rises = omega arith; given = λ m e. by m e (cases_eq m (table k s).next) })
  where
    by : (m : ℕ) → at (table k s).rows m ≡ None → (m ≡ (table k s).next) ⊎ (m ≢ (table k s).next)
        → (at (with_last (table k s).rows (table k s).next r) m ≡ None) ⊎ ((m ≡ (table k s).next) × ((table k s).next + 1 ≡ (table k s).next + 1))
    by m e (inl is) = inr (is, refl)
    by m e (inr ne) = inl (at-with_last-other (table k s).rows (table k s).next m r ne ∙ e)

edited : (k : Kind) (n : ℕ) (f : Record k → Record k) (s : State) → AllFollow s (after_edit k n f s)
edited k n f s = other_table s k (with_edit n f (table k s)) (record { rises = omega arith; given = λ m e. inl (at-edit_at-none (table k s).rows n m f e) })

removed : (k : Kind) (n : ℕ) (s : State) → AllFollow s (after_remove k n s)
removed k n s = other_table s k (with_removed n (table k s)) (record { rises = omega arith; given = λ m e. inl (at-filter-none _ (table k s).rows m e) })

-- records that are kept or changed make none where none stood
less : {R : Type 0} {t u : Table R} (v : Table R) → GivesNext t u → v.next ≡ u.next → ((m : ℕ) → at u.rows m ≡ None → at v.rows m ≡ None) → GivesNext t v
less {t = t} {u = u} v h same_next none = record {
  rises = subst (λ n. t.next ≤ n) (sym same_next) h.rises;
  given = λ m e. by m (h.given m e);
}
  where
    by : (m : ℕ) → (at u.rows m ≡ None) ⊎ ((m ≡ t.next) × (u.next ≡ t.next + 1)) → (at v.rows m ≡ None) ⊎ ((m ≡ t.next) × (v.next ≡ t.next + 1))
    by m (inl e) = inl (none m e)
    by m (inr p) = inr (p.0, same_next ∙ p.1)

-- settling and forgetting a name leave every next number, and make no record
revoked : (s t : State) → AllFollow s t → AllFollow s (revoke t)
revoked s t h kind.Circuit = less (revoke t).circuits (h kind.Circuit) refl (λ m e. at-filter-none _ t.circuits.rows m e)
revoked s t h k = h k

repaired : (s t : State) → AllFollow s t → AllFollow s (repair t)
repaired s t h kind.Link = less (repair t).links (h kind.Link) refl (λ m e. at-filter-none _ t.links.rows m e)
repaired s t h kind.Terminator = less (repair t).terminators (h kind.Terminator) refl (λ m e. at-filter-none _ t.terminators.rows m e)
repaired s t h kind.Circuit = less (repair t).circuits (h kind.Circuit) refl (λ m e. at-filter-none _ _ m (at-map_each-none _ t.circuits.rows m e))
repaired s t h k = h k

settled : (s t : State) → AllFollow s t → AllFollow s (settle t)
settled s t h = repaired s (revoke t) (revoked s t h)

forgets : (i : Kind) (name : List ℕ) (s t : State) → AllFollow s t → AllFollow s (forgotten i name t)
forgets kind.Identity name s t h kind.ServicePolicy = less (forgotten kind.Identity name t).service_policies (h kind.ServicePolicy) refl (at-map_each-none _ t.service_policies.rows)
forgets kind.Identity name s t h kind.EdgeRouterPolicy = less (forgotten kind.Identity name t).edge_router_policies (h kind.EdgeRouterPolicy) refl (at-map_each-none _ t.edge_router_policies.rows)
forgets kind.Service name s t h kind.ServicePolicy = less (forgotten kind.Service name t).service_policies (h kind.ServicePolicy) refl (at-map_each-none _ t.service_policies.rows)
forgets kind.Service name s t h kind.ServiceEdgeRouterPolicy =
    less (forgotten kind.Service name t).service_edge_router_policies (h kind.ServiceEdgeRouterPolicy) refl (at-map_each-none _ t.service_edge_router_policies.rows)
forgets kind.Router name s t h kind.EdgeRouterPolicy = less (forgotten kind.Router name t).edge_router_policies (h kind.EdgeRouterPolicy) refl (at-map_each-none _ t.edge_router_policies.rows)
forgets kind.Router name s t h kind.ServiceEdgeRouterPolicy =
    less (forgotten kind.Router name t).service_edge_router_policies (h kind.ServiceEdgeRouterPolicy) refl (at-map_each-none _ t.service_edge_router_policies.rows)
forgets i name s t h k = h k

-- intercepts are in no table
intercepted : (s t : State) (intercepts : List (ℕ × Intercept)) → AllFollow s t → AllFollow s (record t { intercepts = intercepts })
intercepted s t intercepts h kind.Link = h kind.Link
intercepted s t intercepts h k = h k

unclaimed : (i : Kind) (n : ℕ) (s t : State) → AllFollow s t → AllFollow s (without_intercept i n t)
unclaimed kind.Service n s t h = intercepted s t (without t.intercepts n) h
unclaimed i n s t h = h

step : (s : State) (o : Option Refusal) (reply : Reply) (effect : State) → AllFollow s effect → AllFollow s (carried_out o s reply effect).1
step s o reply effect h = carried_out-holds (AllFollow s) o s reply effect (same s) (λ _. settled s effect h)

there : (s : State) (found : Option ℕ) (effect : ℕ → State) → ((n : ℕ) → found ≡ Some n → AllFollow s (effect n)) → AllFollow s (at_number found s effect)
there s found effect h = at_number-holds (AllFollow s) found s effect (same s) h

-- the setting is in no table
least : (cost : ℕ) (s : State) → AllFollow s (record s { least_router_cost = cost })
least cost s kind.Link = alike s.links
least cost s k = same s k

made : (k : Kind) (r : Record k) (s : State) → AllFollow s (create k r s).1
made k r s = step s _ _ _ (one_more k r s)

changed : (k : Kind) (name : List ℕ) (f : Record k → Record k) (s : State) → AllFollow s (after_update k name f s)
changed k name f s = there s (named k s name) _ (λ n _. edited k n f s)

updated : (k : Kind) (name : List ℕ) (f : Record k → Record k) (absent : Option Refusal) (s : State) → AllFollow s (update k name f absent s).1
updated k name f absent s = step s (refusal_of_update k name f absent s) Done (after_update k name f s) (changed k name f s)

gone : (k : Kind) (of : Field) (name : List ℕ) (s : State) → AllFollow s (delete k of name s).1
gone k of name s = step s _ _ _ (there s (named k s name) _ (λ n _. forgets k name s (without_intercept k n (after_remove k n s)) (unclaimed k n s (after_remove k n s) (removed k n s))))

looked : (s : State) (o : Option Refusal) (reply : Reply) → AllFollow s (shown o s reply).1
looked s None reply = same s
looked s (Some r) reply = same s

carry-follows : (c : Command) (s : State) → AllFollow s (carry c s).1
carry-follows command.Hello s = same s
carry-follows (command.CreateIdentity name attributes) s = made kind.Identity _ s
carry-follows (command.UpdateIdentity name attributes) s = updated kind.Identity name (described attributes) None s
carry-follows (command.DeleteIdentity name) s = gone kind.Identity field.Name name s
carry-follows (command.CreateService name attributes) s = made kind.Service _ s
carry-follows (command.UpdateService name attributes) s = updated kind.Service name (described attributes) None s
carry-follows (command.DeleteService name) s = gone kind.Service field.Name name s
carry-follows (command.CreateRouter name attributes cost no_traversal) s = made kind.Router _ s
carry-follows (command.UpdateRouter name attributes cost no_traversal) s = updated kind.Router name (described_router attributes cost no_traversal) None s
carry-follows (command.DeleteRouter name) s = gone kind.Router field.Name name s
carry-follows (command.ConnectRouter name) s = step s _ _ _ (changed kind.Router name (marked true) s)
carry-follows (command.DisconnectRouter name) s = step s _ _ _ (changed kind.Router name (marked false) s)
carry-follows (command.CreateServicePolicy name relation semantic left right) s = made kind.ServicePolicy (policy name relation semantic left right) s
carry-follows (command.UpdateServicePolicy name relation semantic left right) s =
    updated kind.ServicePolicy name (replaced_by (policy name relation semantic left right)) (absent_names kind.ServicePolicy (policy name relation semantic left right) s) s
carry-follows (command.DeleteServicePolicy name) s = gone kind.ServicePolicy field.Name name s
carry-follows (command.CreateEdgeRouterPolicy name semantic left right) s = made kind.EdgeRouterPolicy (policy name IdentityRouter semantic left right) s
carry-follows (command.UpdateEdgeRouterPolicy name semantic left right) s =
    updated kind.EdgeRouterPolicy name (replaced_by (policy name IdentityRouter semantic left right)) (absent_names kind.EdgeRouterPolicy (policy name IdentityRouter semantic left right) s) s
carry-follows (command.DeleteEdgeRouterPolicy name) s = gone kind.EdgeRouterPolicy field.Name name s
carry-follows (command.CreateServiceEdgeRouterPolicy name semantic left right) s = made kind.ServiceEdgeRouterPolicy (policy name ServiceRouter semantic left right) s
carry-follows (command.UpdateServiceEdgeRouterPolicy name semantic left right) s =
    updated kind.ServiceEdgeRouterPolicy name (replaced_by (policy name ServiceRouter semantic left right)) (absent_names kind.ServiceEdgeRouterPolicy (policy name ServiceRouter semantic left right) s) s
carry-follows (command.DeleteServiceEdgeRouterPolicy name) s = gone kind.ServiceEdgeRouterPolicy field.Name name s
carry-follows (command.CreateLink name a b cost latency_a latency_b) s =
    step s (refusal_of_create_link name a b s) (Made s.links.next) (after_create_link name a b cost latency_a latency_b s)
    (there s (named kind.Router s a) _ (λ n _. there s (named kind.Router s b) _ (λ m _. one_more kind.Link _ s)))
carry-follows (command.SetLinkCost link cost) s = step s _ _ _ (changed kind.Link link _ s)
carry-follows (command.ReportLatency link router latency) s =
    step s (refusal_of_report link router s) Done (after_report_latency link router latency s)
    (there s (named kind.Router s router) _ (λ m _. changed kind.Link link (with_latency m latency) s))
carry-follows (command.ReportState link router up) s = step s _ _ _ (changed kind.Link link _ s)
carry-follows (command.DeleteLink link) s = gone kind.Link field.Link link s
carry-follows (command.SetLeastRouterCost cost) s = step s None Done (record s { least_router_cost = cost }) (least cost s)
carry-follows (command.CreateTerminator service router instance host cost precedence) s =
    step s (refusal_of_create_terminator service router host s) (Made s.terminators.next) (after_create_terminator service router instance host cost precedence s)
    (there s (named kind.Service s service) _ (λ n _. there s (named kind.Router s router) _ (λ m _. one_more kind.Terminator _ s)))
carry-follows (command.UpdateTerminator n cost precedence) s = step s _ _ _ (edited kind.Terminator n _ s)
carry-follows (command.DeleteTerminator n) s = step s _ _ _ (removed kind.Terminator n s)
carry-follows (command.CreateCircuit identity service ingress instance) s =
    decided-holds (λ a. AllFollow s a.1) _ _ _ _ (λ d. same s) (λ c none. settled s _ (one_more kind.Circuit _ s))
carry-follows (command.DeleteCircuit n) s = step s _ _ _ (removed kind.Circuit n s)
carry-follows (command.Explain identity service ingress instance) s = decided-holds (λ a. AllFollow s a.1) _ _ _ _ (λ d. same s) (λ c none. same s)
carry-follows (command.VerifyRoute identity service ingress instance chosen links potentials routers terminator total) s = same s
carry-follows (command.ShowGrants identity) s = looked s _ _
carry-follows (command.ListServices identity) s = looked s _ _
carry-follows command.ShowCounts s = same s
carry-follows (command.ShowCircuit n) s = looked s _ _
carry-follows command.Compact s = same s
carry-follows (command.SetIntercept service intercept) s =
    step s _ _ _ (there s (named kind.Service s service) _ (λ n _. intercepted s s (with_at n intercept s.intercepts) (same s)))
carry-follows (command.ClearIntercept service) s =
    step s _ _ _ (there s (named kind.Service s service) _ (λ n _. intercepted s s (without s.intercepts n) (same s)))
carry-follows (command.Pick identity udp address port) s = looked s _ _
carry-follows (command.ListClashes identity service) s = looked s _ _

pub answer-follows : (who : Who) (c : Command) (s : State) → AllFollow s (answer who c s).1
answer-follows who c s = cond-holds (λ a. AllFollow s a.1) (is_permitted who c) (carry c s) (Refused NotPermitted, s) (carry-follows c s) (same s)

pub answer-none_falls : (who : Who) (c : Command) (s : State) (k : Kind) → (table k s).next ≤ (table k (answer who c s).1).next
answer-none_falls who c s k = (answer-follows who c s k).rises

-- a number below the next one, at which nothing stands, stays free
pub answer-stays_free : (who : Who) (c : Command) (s : State) (k : Kind) (m : ℕ) → m < (table k s).next → at (table k s).rows m ≡ None
    → at (table k (answer who c s).1).rows m ≡ None
answer-stays_free who c s k m below e = by ((answer-follows who c s k).given m e)
  where
    by : (at (table k (answer who c s).1).rows m ≡ None) ⊎ ((m ≡ (table k s).next) × ((table k (answer who c s).1).next ≡ (table k s).next + 1))
        → at (table k (answer who c s).1).rows m ≡ None
    by (inl none) = none
    by (inr p) = let is = p.0 in absurd (omega arith)

-- Each command changes what it may change and settles, or leaves the state.
use Rattle.std.proofs.Common.{◌≡◌, ◌≢◌, ◌∙◌, ap, sym, ℕ, true, false, ◌⊎◌, inl, inr, List, Option, None, Some, refl, subst}
use Rattle.std.proofs.lemmas.Option.{same_Some}
use Rattle.ctrl_model.specs.declared.commands.Command.{Command}
use Rattle.ctrl_model.specs.declared.commands.Command.TheVariants as command
use Rattle.ctrl_model.specs.declared.kinds.Kind.{Kind}
use Rattle.ctrl_model.specs.declared.kinds.Kind.TheVariants as kind
use Rattle.ctrl_model.specs.declared.kinds.Who.{Who}
use Rattle.ctrl_model.specs.declared.kinds.Relation.TheVariants.{IdentityRouter, ServiceRouter}
use Rattle.ctrl_model.specs.declared.refusals.Field.{Field}
use Rattle.ctrl_model.specs.declared.refusals.Field.TheVariants as field
use Rattle.ctrl_model.specs.declared.refusals.Refusal.{Refusal}
use Rattle.ctrl_model.specs.declared.refusals.Refusal.TheVariants.{NotPermitted, Denied}
use Rattle.ctrl_model.specs.declared.replies.Reply.{Reply}
use Rattle.ctrl_model.specs.declared.replies.Reply.TheVariants.{Refused, Done, Made}
use Rattle.ctrl_model.specs.Numbered.{Table, with_new, with_edit, with_removed, without, at}
use Rattle.ctrl_model.specs.State.{State}
use Rattle.ctrl_model.specs.Tables.{Record, table, with_table, named}
use Rattle.ctrl_model.specs.Settling.{settle}
use Rattle.ctrl_model.specs.Rules.{carried_out, at_number, unknown_if_absent}
use Rattle.ctrl_model.specs.Networks.{network_of}
use Rattle.ctrl_model.specs.Choices.{Ask, first_rule, best}
use Rattle.ctrl_model.specs.RecordCommands.{after_create, after_edit, after_remove, after_update, forgotten, without_intercept, refusal_of_create, refusal_of_update, create, update, delete, absent_names}
use Rattle.ctrl_model.specs.EntityCommands.{entity, described, new_router, described_router, marked}
use Rattle.ctrl_model.specs.PolicyCommands.{replaced_by}
use Rattle.ctrl_model.specs.LinkCommands.{with_latency, after_create_link, refusal_of_create_link, after_set_link_cost, refusal_of_report, after_report_latency, after_report_state}
use Rattle.ctrl_model.specs.TerminatorCommands.{after_create_terminator, refusal_of_create_terminator, no_such_terminator, after_update_terminator}
use Rattle.ctrl_model.specs.CircuitCommands.{ask_of, after_create_circuit, granted_reply, create_circuit, explain, no_such_circuit}
use Rattle.ctrl_model.specs.Permitted.{is_permitted}
use Rattle.ctrl_model.specs.Controller.{policy, carry, answer}
use Rattle.ctrl_model.specs.InterceptCommands.{no_such_service, after_set_intercept, after_clear_intercept}
use Rattle.model_laws.specs.TouchedTables.{Touched, Added, Changed, Deleted, OneIntercept, Nothing, touched_by, records_back, put_back, forgetting, OthersStay, ChangesOne, ChangesOnly}
use Rattle.model_laws.proofs.KindLaws.{with_table-holds}
use Rattle.ctrl_model.proofs.NumberedLaws.{at-edit_at-other, at-without-other, at-with_at-other}
use Rattle.model_laws.proofs.AbsentRecords.{at-filter-none, at-without-none, at-edit_at-none}
use Rattle.model_laws.proofs.RefusalLaws.{or_then-none, at_number-holds, shown-leaves, cond-holds, decided-holds}

-- the state is the old one, or only what may be changed is another
abbrev pub LeavesOrChanges : Touched → State → Reply × State → Type 0
LeavesOrChanges touched s a = (a.1 ≡ s) ⊎ ChangesOnly touched s a.1

step : (touched : Touched) (s : State) (o : Option Refusal) (reply : Reply) (effect : State) → ChangesOne touched s effect
    → LeavesOrChanges touched s (carried_out o s reply effect)
step touched s None reply effect one = inr (record { effect = effect; changes = one; is_next = refl })
step touched s (Some r) reply effect one = inl refl

-- where a refusal that comes leaves the state, an effect counts only where none comes
step_if : (touched : Touched) (s : State) (o : Option Refusal) (reply : Reply) (effect : State) → (o ≡ None → ChangesOne touched s effect)
    → LeavesOrChanges touched s (carried_out o s reply effect)
step_if touched s None reply effect one = inr (record { effect = effect; changes = one refl; is_next = refl })
step_if touched s (Some r) reply effect one = inl refl

-- a record between two others is made where neither of the two is absent
between : (touched : Touched) (from to : Field) (s : State) (found there : Option ℕ) (effect : ℕ → ℕ → State) → unknown_if_absent from found ≡ None → unknown_if_absent to there ≡ None
    → ((n m : ℕ) → ChangesOne touched s (effect n m)) → ChangesOne touched s (at_number found s (λ n. at_number there s (effect n)))
between touched from to s None there effect p q new = absurd (cc)
between touched from to s (Some n) None effect p q new = absurd (cc)
between touched from to s (Some n) (Some m) effect p q new = new n m

there : (touched : Touched) (s : State) (found : Option ℕ) (effect : ℕ → State) → ChangesOne touched s s
    → ((n : ℕ) → found ≡ Some n → ChangesOne touched s (effect n)) → ChangesOne touched s (at_number found s effect)
there touched s found effect old new = at_number-holds (ChangesOne touched s) found s effect old new

-- a deletion is refused where nothing has the name
gone : (touched : Touched) (of : Field) (s : State) (found : Option ℕ) (effect : ℕ → State) → ((n : ℕ) → found ≡ Some n → ChangesOne touched s (effect n))
    → LeavesOrChanges touched s (carried_out (unknown_if_absent of found) s Done (at_number found s effect))
gone touched of s None effect new = inl refl
gone touched of s (Some n) effect new = inr (record { effect = effect n; changes = new n refl; is_next = refl })

one : {touched : Touched} {old effect : State} → put_back touched old effect ≡ forgetting touched old → OthersStay touched old effect → ChangesOne touched old effect
one e others = record { all_else_stays = e; others_stay = others }

-- a number that is not the one found
other : {found : Option ℕ} {n m : ℕ} → found ≡ Some n → (found ≡ Some m → ⊥) → m ≢ n
other is ne e = ne (is ∙ ap Some (sym e))

-- what is removed is gone
gone_at : {R : Type 0} {found : Option ℕ} (xs : List (ℕ × R)) (n : ℕ) → found ≡ Some n → (m : ℕ) → found ≡ Some m → at (without xs n) m ≡ None
gone_at xs n is m e = subst (λ k. at (without xs n) k ≡ None) (same_Some n m (sym is ∙ e)) (at-without-none xs n)

-- ---- what a change of one table leaves

-- a state with a table of its own is that state
put_again : (k : Kind) (t : Table (Record k)) (s : State) → with_table k (table k s) (with_table k t s) ≡ s
put_again kind.Link t s = refl
put_again k t s = refl

-- where the next number stays, so does the state with the records put back
rows_again : (k : Kind) (t : Table (Record k)) (s : State) → t.next ≡ (table k s).next → records_back k s (with_table k t s) ≡ s
rows_again kind.Identity t s e = ap (λ n. record s { identities = record s.identities { next = n } }) e
rows_again kind.Service t s e = ap (λ n. record s { services = record s.services { next = n } }) e
rows_again kind.Router t s e = ap (λ n. record s { routers = record s.routers { next = n } }) e
rows_again kind.Link t s e = ap (λ n. record s { links = record s.links { next = n } }) e
rows_again kind.ServicePolicy t s e = ap (λ n. record s { service_policies = record s.service_policies { next = n } }) e
rows_again kind.EdgeRouterPolicy t s e = ap (λ n. record s { edge_router_policies = record s.edge_router_policies { next = n } }) e
rows_again kind.ServiceEdgeRouterPolicy t s e = ap (λ n. record s { service_edge_router_policies = record s.service_edge_router_policies { next = n } }) e
rows_again kind.Terminator t s e = ap (λ n. record s { terminators = record s.terminators { next = n } }) e
rows_again kind.Circuit t s e = ap (λ n. record s { circuits = record s.circuits { next = n } }) e
rows_again kind.Attribute t s e = refl

-- the record at a number, where the new table has it as the old one
stays_at : (k : Kind) (t : Table (Record k)) (s : State) (m : ℕ) → at t.rows m ≡ at (table k s).rows m → at (table k (with_table k t s)).rows m ≡ at (table k s).rows m
stays_at k t s m e = with_table-holds (λ j v. at v.rows m ≡ at (table j s).rows m) s k t refl e (λ j. refl) k

-- no record stands where the new table has none
none_at : (k : Kind) (t : Table (Record k)) (s : State) (m : ℕ) → at t.rows m ≡ None → at (table k (with_table k t s)).rows m ≡ None
none_at kind.Identity t s m e = e
none_at kind.Attribute t s m e = refl
none_at k t s m e = e

-- the table of a kind that has records is the new one
created : (k : Kind) (r : Record k) (s : State) → table k (after_create k r s) ≡ with_new r (table k s) → ChangesOne (Added k) s (after_create k r s)
created k r s new = one (put_again k (with_new r (table k s)) s) (record { made = r; added = new })

edited : (k : Kind) (n : ℕ) (f : Record k → Record k) (s : State) (found : Option ℕ) → found ≡ Some n → ChangesOne (Changed k found) s (after_edit k n f s)
edited k n f s found is = one (rows_again k (with_edit n f (table k s)) s refl) (
  λ m ne. stays_at k (with_edit n f (table k s)) s m (at-edit_at-other (table k s).rows n m f (other is ne)),
  λ m e. none_at k (with_edit n f (table k s)) s m (at-edit_at-none (table k s).rows n m f e),
)

removed : (k : Kind) (n : ℕ) (s : State) (found : Option ℕ) → found ≡ Some n → ChangesOne (Changed k found) s (after_remove k n s)
removed k n s found is = one (rows_again k (with_removed n (table k s)) s refl) (
  λ m ne. stays_at k (with_removed n (table k s)) s m (at-without-other (table k s).rows n m (other is ne)),
  λ m e. none_at k (with_removed n (table k s)) s m (at-filter-none _ (table k s).rows m e),
)

untouched : (k : Kind) (found : Option ℕ) (s : State) → ChangesOne (Changed k found) s s
untouched k found s = one (again k s) (λ m ne. refl, λ m e. e)
  where
    again : (k : Kind) (s : State) → records_back k s s ≡ s
    again kind.Link s = refl
    again k s = refl

-- ---- what each command on named records leaves

made : (k : Kind) (r : Record k) (s : State) → table k (after_create k r s) ≡ with_new r (table k s) → LeavesOrChanges (Added k) s (create k r s)
made k r s new = step (Added k) s (refusal_of_create k r s) (Made (table k s).next) (after_create k r s) (created k r s new)

changed : (k : Kind) (name : List ℕ) (f : Record k → Record k) (s : State) → ChangesOne (Changed k (named k s name)) s (after_update k name f s)
changed k name f s = there _ s (named k s name) _ (untouched k (named k s name) s) (λ n is. edited k n f s (named k s name) is)

updated : (k : Kind) (name : List ℕ) (f : Record k → Record k) (absent : Option Refusal) (s : State) → LeavesOrChanges (Changed k (named k s name)) s (update k name f absent s)
updated k name f absent s = step _ s (refusal_of_update k name f absent s) Done (after_update k name f s) (changed k name f s)

-- a record whose name no side has, and which no intercept is under, goes alone
deleted : (k : Kind) (of : Field) (name : List ℕ) (s : State) → ((n : ℕ) (t : State) → forgotten k name (without_intercept k n t) ≡ t)
    → LeavesOrChanges (Changed k (named k s name)) s (delete k of name s)
deleted k of name s none =
    gone (Changed k (named k s name)) of s (named k s name) _ (λ n is. subst (ChangesOne (Changed k (named k s name)) s) (sym (none n (after_remove k n s))) (removed k n s (named k s name) is))

create_circuit-changes : (ask : Ask) (s : State) → LeavesOrChanges (Added kind.Circuit) s (create_circuit ask s)
create_circuit-changes ask s = decided-holds (LeavesOrChanges (Added kind.Circuit) s) (first_rule (network_of s) ask) (best (network_of s) ask)
    (λ d. (Refused (Denied d), s)) (λ c. (granted_reply c s, settle (after_create_circuit ask c s))) (λ d. inl refl)
    (λ c none. inr (record {
      effect = after_create_circuit ask c s;
      changes = created kind.Circuit _ s refl;
      is_next = refl;
    }))

explain-changes : (ask : Ask) (s : State) → LeavesOrChanges Nothing s (explain ask s)
explain-changes ask s = decided-holds (LeavesOrChanges Nothing s) (first_rule (network_of s) ask) (best (network_of s) ask)
    (λ d. (Refused (Denied d), s)) _ (λ d. inl refl) (λ c none. inl refl)

carry-changes : (c : Command) (s : State) → LeavesOrChanges (touched_by c s) s (carry c s)
carry-changes command.Hello s = inl refl
carry-changes (command.CreateIdentity name attributes) s = made kind.Identity (entity name attributes) s refl
carry-changes (command.UpdateIdentity name attributes) s = updated kind.Identity name (described attributes) None s
carry-changes (command.DeleteIdentity name) s =
    gone (Deleted kind.Identity name (named kind.Identity s name)) field.Name s (named kind.Identity s name) _
    (λ n is. one (ap (λ o. forgotten kind.Identity name (at_number o s (λ m. without_intercept kind.Identity m s))) (sym is)) (λ m ne. at-without-other s.identities.rows n m (other is ne), gone_at s.identities.rows n is))
carry-changes (command.CreateService name attributes) s = made kind.Service (entity name attributes) s refl
carry-changes (command.UpdateService name attributes) s = updated kind.Service name (described attributes) None s
carry-changes (command.DeleteService name) s =
    gone (Deleted kind.Service name (named kind.Service s name)) field.Name s (named kind.Service s name) _
    (λ n is. one (ap (λ o. forgotten kind.Service name (at_number o s (λ m. without_intercept kind.Service m s))) (sym is)) (λ m ne. at-without-other s.services.rows n m (other is ne), gone_at s.services.rows n is))
carry-changes (command.CreateRouter name attributes cost no_traversal) s = made kind.Router (new_router name attributes cost no_traversal) s refl
carry-changes (command.UpdateRouter name attributes cost no_traversal) s = updated kind.Router name (described_router attributes cost no_traversal) None s
carry-changes (command.DeleteRouter name) s =
    gone (Deleted kind.Router name (named kind.Router s name)) field.Name s (named kind.Router s name) _
    (λ n is. one (ap (λ o. forgotten kind.Router name (at_number o s (λ m. without_intercept kind.Router m s))) (sym is)) (λ m ne. at-without-other s.routers.rows n m (other is ne), gone_at s.routers.rows n is))
carry-changes (command.ConnectRouter name) s =
    step _ s (unknown_if_absent field.Name (named kind.Router s name)) Done (after_update kind.Router name (marked true) s) (changed kind.Router name (marked true) s)
carry-changes (command.DisconnectRouter name) s =
    step _ s (unknown_if_absent field.Name (named kind.Router s name)) Done (after_update kind.Router name (marked false) s) (changed kind.Router name (marked false) s)
carry-changes (command.CreateServicePolicy name relation semantic left right) s = made kind.ServicePolicy (policy name relation semantic left right) s refl
carry-changes (command.UpdateServicePolicy name relation semantic left right) s =
    updated kind.ServicePolicy name (replaced_by (policy name relation semantic left right)) (absent_names kind.ServicePolicy (policy name relation semantic left right) s) s
carry-changes (command.DeleteServicePolicy name) s = deleted kind.ServicePolicy field.Name name s (λ n t. refl)
carry-changes (command.CreateEdgeRouterPolicy name semantic left right) s = made kind.EdgeRouterPolicy (policy name IdentityRouter semantic left right) s refl
carry-changes (command.UpdateEdgeRouterPolicy name semantic left right) s =
    updated kind.EdgeRouterPolicy name (replaced_by (policy name IdentityRouter semantic left right)) (absent_names kind.EdgeRouterPolicy (policy name IdentityRouter semantic left right) s) s
carry-changes (command.DeleteEdgeRouterPolicy name) s = deleted kind.EdgeRouterPolicy field.Name name s (λ n t. refl)
carry-changes (command.CreateServiceEdgeRouterPolicy name semantic left right) s = made kind.ServiceEdgeRouterPolicy (policy name ServiceRouter semantic left right) s refl
carry-changes (command.UpdateServiceEdgeRouterPolicy name semantic left right) s =
    updated kind.ServiceEdgeRouterPolicy name (replaced_by (policy name ServiceRouter semantic left right)) (absent_names kind.ServiceEdgeRouterPolicy (policy name ServiceRouter semantic left right) s) s
carry-changes (command.DeleteServiceEdgeRouterPolicy name) s = deleted kind.ServiceEdgeRouterPolicy field.Name name s (λ n t. refl)
carry-changes (command.CreateLink name a b cost latency_a latency_b) s =
    step_if _ s (refusal_of_create_link name a b s) (Made s.links.next) (after_create_link name a b cost latency_a latency_b s) (λ none.
    let rules = or_then-none _ _ none in
    let from = or_then-none (unknown_if_absent field.A (named kind.Router s a)) _ rules.1 in
    let to = or_then-none (unknown_if_absent field.B (named kind.Router s b)) _ from.1 in
    between (Added kind.Link) field.A field.B s (named kind.Router s a) (named kind.Router s b) _ from.0 to.0 (λ n m. created kind.Link _ s refl))
carry-changes (command.SetLinkCost link cost) s =
    step _ s (unknown_if_absent field.Link (named kind.Link s link)) Done (after_set_link_cost link cost s) (changed kind.Link link _ s)
carry-changes (command.ReportLatency link router latency) s =
    step _ s (refusal_of_report link router s) Done (after_report_latency link router latency s)
    (there _ s (named kind.Router s router) _ (untouched kind.Link (named kind.Link s link) s) (λ r at_r. changed kind.Link link (with_latency r latency) s))
carry-changes (command.ReportState link router up) s =
    step _ s (refusal_of_report link router s) Done (after_report_state link up s) (changed kind.Link link _ s)
carry-changes (command.DeleteLink link) s = deleted kind.Link field.Link link s (λ n t. refl)
carry-changes (command.SetLeastRouterCost cost) s =
    step _ s None Done
    (record s { least_router_cost = cost })
    (one refl tt)
carry-changes (command.CreateTerminator service router instance host cost precedence) s =
    step_if _ s (refusal_of_create_terminator service router host s) (Made s.terminators.next)
    (after_create_terminator service router instance host cost precedence s) (λ none.
    let offered = or_then-none (unknown_if_absent field.Service (named kind.Service s service)) _ none in
    let placed = or_then-none (unknown_if_absent field.Router (named kind.Router s router)) _ offered.1 in
    between (Added kind.Terminator) field.Service field.Router s (named kind.Service s service) (named kind.Router s router) _ offered.0 placed.0
    (λ n r. created kind.Terminator _ s refl))
carry-changes (command.UpdateTerminator n cost precedence) s =
    step _ s (no_such_terminator n s) Done (after_update_terminator n cost precedence s) (edited kind.Terminator n _ s (Some n) refl)
carry-changes (command.DeleteTerminator n) s =
    step _ s (no_such_terminator n s) Done (after_remove kind.Terminator n s) (removed kind.Terminator n s (Some n) refl)
carry-changes (command.CreateCircuit identity service ingress instance) s = create_circuit-changes (ask_of identity service ingress instance s) s
carry-changes (command.DeleteCircuit n) s =
    step _ s (no_such_circuit n s) Done (after_remove kind.Circuit n s) (removed kind.Circuit n s (Some n) refl)
carry-changes (command.Explain identity service ingress instance) s = explain-changes (ask_of identity service ingress instance s) s
carry-changes (command.VerifyRoute identity service ingress instance chosen links potentials routers terminator total) s = inl refl
carry-changes (command.ShowGrants identity) s = inl (shown-leaves _ s _)
carry-changes (command.ListServices identity) s = inl (shown-leaves _ s _)
carry-changes command.ShowCounts s = inl refl
carry-changes (command.ShowCircuit n) s = inl (shown-leaves _ s _)
carry-changes command.Compact s = inl refl
carry-changes (command.SetIntercept service intercept) s =
    step (OneIntercept (named kind.Service s service)) s (no_such_service service s) Done (after_set_intercept service intercept s)
    (there _ s (named kind.Service s service) _ (one refl (λ m ne. refl)) (λ n is. one refl (λ m ne. at-with_at-other s.intercepts n m intercept (other is ne))))
carry-changes (command.ClearIntercept service) s =
    step (OneIntercept (named kind.Service s service)) s (no_such_service service s) Done (after_clear_intercept service s)
    (there _ s (named kind.Service s service) _ (one refl (λ m ne. refl)) (λ n is. one refl (λ m ne. at-without-other s.intercepts n m (other is ne))))
carry-changes (command.Pick identity udp address port) s = inl (shown-leaves _ s _)
carry-changes (command.ListClashes identity service) s = inl (shown-leaves _ s _)

pub answer-changes : (who : Who) (c : Command) (s : State) → LeavesOrChanges (touched_by c s) s (answer who c s)
answer-changes who c s = cond-holds (LeavesOrChanges (touched_by c s) s) (is_permitted who c) (carry c s) (Refused NotPermitted, s) (carry-changes c s) (inl refl)

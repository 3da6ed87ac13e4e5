-- Each command is answered within the limits of a reply.
use Rattle.ctrl_model.specs.declared.kinds.Kind.{Kind}
use Rattle.ctrl_model.specs.declared.kinds.Kind.TheVariants as kind
use Rattle.ctrl_model.specs.declared.refusals.Field.{Field}
use Rattle.std.proofs.Common.{◌≡◌, ℕ, ◌≤◌, true, false, ◌&&◌, cond, nat_lt, Bool, List, [], ◌∷◌, Option, None, Some, unwrap_or, nat_le, length, map, filter, refl, sym, ap, arith}
use Rattle.std.proofs.lemmas.Bool.{le-leb, and_from}
use Rattle.std.proofs.lemmas.List.{length-map}
use Rattle.ctrl_model.proofs.NumberedLaws.{length-filter-le}
use Rattle.ctrl_model.specs.declared.commands.Command.{Command}
use Rattle.ctrl_model.specs.declared.commands.Command.TheVariants as command
use Rattle.ctrl_model.specs.declared.refusals.Refusal.{Refusal}
use Rattle.ctrl_model.specs.declared.kinds.Relation.TheVariants.{Dial, Bind, IdentityRouter, ServiceRouter}
use Rattle.ctrl_model.specs.declared.refusals.Field.TheVariants.{Identity, Name, Link}
use Rattle.ctrl_model.specs.declared.replies.Reply.{Reply}
use Rattle.ctrl_model.specs.declared.replies.Reply.TheVariants.{Done, Made, Refused}
use Rattle.ctrl_model.specs.declared.refusals.Refusal.TheVariants.{JournalFull, MarkFull, NotPermitted, NoIntercept}
use Rattle.ctrl_model.specs.declared.kinds.Who.{Who}
use Rattle.ctrl_model.specs.Permitted.{is_permitted}
use Rattle.row_codec.specs.declared.changes.Op.{Op}
use Rattle.row_codec.specs.Batches.{batch_between}
use Rattle.row_store.specs.declared.bounds.StoreBounds.{StoreBounds}
use Rattle.ctrl_keep.specs.KeptMachine.{Place, Machine, has_no_room, behind, kept, is_compact, compacted_place, compacted_at, answered, step}
use Rattle.row_store.specs.OpenedStates.{byte_rows_of}
use Rattle.row_store.specs.RewrittenStores.{compacted_size}
use Rattle.ctrl_model.specs.State.{State, Entity, as_entity, entity_named, link_named}
use Rattle.ctrl_model.specs.Rules.{carried_out, shown, or_then, unknown_if_absent}
use Rattle.ctrl_model.specs.Tables.{Record, table, named}
use Rattle.ctrl_model.specs.RecordCommands.{create, update, delete, after_create, after_update, after_delete, after_remove, refusal_of_create, refusal_of_update, absent_names}
use Rattle.ctrl_model.specs.EntityCommands.{entity, described, new_router, described_router, marked}
use Rattle.ctrl_model.specs.Grants.{count}
use Rattle.ctrl_model.specs.PolicyCommands.{replaced_by}
use Rattle.ctrl_model.specs.LinkCommands.{after_create_link, after_set_link_cost, after_report_latency, after_report_state, refusal_of_create_link, refusal_of_report}
use Rattle.ctrl_model.specs.TerminatorCommands.{after_create_terminator, after_update_terminator, refusal_of_create_terminator, no_such_terminator}
use Rattle.ctrl_model.specs.ShowCommands.{tally_of, router_entities, grants_of, services_of}
use Rattle.ctrl_model.specs.ValidState.{ValidState}
use Rattle.ctrl_model.specs.CircuitCommands.{ask_of, shown_circuit, no_such_circuit}
use Rattle.ctrl_model.specs.Numbered.{at}
use Rattle.ctrl_model.specs.Controller.{policy, carry, answer, counted}
use Rattle.ctrl_model.specs.InterceptCommands.{no_such_service, after_set_intercept, after_clear_intercept, picked_for, picked_reply, clashes_reply}
use Rattle.ctrl_serve.proofs.InterceptFits.{pick_fits, clashes_fit}
use Rattle.ctrl_serve.proofs.RouteFits.{create_fits, explain_fits, shown_fit}
use Rattle.std.specs.Option.{option_map_or}
use Rattle.reply_codec.specs.ReplyLimits.{keeps_limits}
use Rattle.ctrl_core.specs.KeptFormat.{kept_format}

-- Where the reply of an effect fits, so does the answer of the command that has it.
pub carried_out_fits : (r : Option Refusal) (s : State) (reply : Reply) (t : State) → keeps_limits reply ≡ true → keeps_limits (carried_out r s reply t).0 ≡ true
carried_out_fits None s reply t fits = fits
carried_out_fits (Some refusal) s reply t fits = refl

-- So does the answer of a command without an effect.
pub shown_fits : (r : Option Refusal) (s : State) (reply : Reply) → keeps_limits reply ≡ true → keeps_limits (shown r s reply).0 ≡ true
shown_fits None s reply fits = fits
shown_fits (Some refusal) s reply fits = refl

-- What passes a test among some rows is no more than the rows.
few_mapped : {X Y : Type 0} (f : X → Y) (test : X → Bool) (rows : List X) (most : ℕ) → length rows ≤ most → nat_le (length (map f (filter test rows))) most ≡ true
few_mapped f test rows most few =
    le-leb _ _ (omega (arith, few, length-map (filter test rows) f, length-filter-le test rows))

-- In a valid state an identity is granted no more services and routers than there may be.
pub grants_fit : (i : ℕ) (s : State) → ValidState s → keeps_limits (grants_of i s) ≡ true
grants_fit i s valid =
    let services = (valid.kinds kind.Service).numbers.few in
    let routers : length (router_entities s) ≤ 256 = omega (arith, (valid.kinds kind.Router).numbers.few, length-map {B = ℕ × Entity} s.routers.rows (λ row. (row.0, as_entity row.1))) in
    and_from _ _ (few_mapped (tally_of (count Bind s i)) _ s.services.rows 512 services)
    (and_from _ _ (few_mapped (tally_of (count Dial s i)) _ s.services.rows 512 services)
    (few_mapped (tally_of (count IdentityRouter s i)) _ (router_entities s) 256 routers))

-- And it may dial no more.
pub services_fit : (i : ℕ) (s : State) → ValidState s → keeps_limits (services_of i s) ≡ true
services_fit i s valid = few_mapped _ _ s.services.rows 512 (valid.kinds kind.Service).numbers.few

-- The answers to the commands on named records.
made_fits : (k : Kind) (r : Record k) (s : State) → keeps_limits (create k r s).0 ≡ true
made_fits k r s = carried_out_fits (refusal_of_create k r s) s (Made (table k s).next) (after_create k r s) refl

updated_fits : (k : Kind) (name : List ℕ) (f : Record k → Record k) (absent : Option Refusal) (s : State) → keeps_limits (update k name f absent s).0 ≡ true
updated_fits k name f absent s = carried_out_fits (refusal_of_update k name f absent s) s Done (after_update k name f s) refl

deleted_fits : (k : Kind) (of : Field) (name : List ℕ) (s : State) → keeps_limits (delete k of name s).0 ≡ true
deleted_fits k of name s = carried_out_fits (unknown_if_absent of (named k s name)) s Done (after_delete k name s) refl

-- The answer to each command fits.
pub carried_fits : (c : Command) (s : State) → ValidState s → keeps_limits (carry c s).0 ≡ true
carried_fits command.Hello s valid = refl
carried_fits (command.CreateIdentity name attributes) s valid = made_fits kind.Identity (entity name attributes) s
carried_fits (command.UpdateIdentity name attributes) s valid = updated_fits kind.Identity name (described attributes) None s
carried_fits (command.DeleteIdentity name) s valid = deleted_fits kind.Identity Name name s
carried_fits (command.CreateService name attributes) s valid = made_fits kind.Service (entity name attributes) s
carried_fits (command.UpdateService name attributes) s valid = updated_fits kind.Service name (described attributes) None s
carried_fits (command.DeleteService name) s valid = deleted_fits kind.Service Name name s
carried_fits (command.CreateRouter name attributes cost no_traversal) s valid = made_fits kind.Router (new_router name attributes cost no_traversal) s
carried_fits (command.UpdateRouter name attributes cost no_traversal) s valid = updated_fits kind.Router name (described_router attributes cost no_traversal) None s
carried_fits (command.DeleteRouter name) s valid = deleted_fits kind.Router Name name s
carried_fits (command.ConnectRouter name) s valid =
    carried_out_fits (unknown_if_absent Name (named kind.Router s name)) s Done (after_update kind.Router name (marked true) s) refl
carried_fits (command.DisconnectRouter name) s valid =
    carried_out_fits (unknown_if_absent Name (named kind.Router s name)) s Done (after_update kind.Router name (marked false) s) refl
carried_fits (command.CreateServicePolicy name relation semantic left right) s valid = made_fits kind.ServicePolicy (policy name relation semantic left right) s
carried_fits (command.UpdateServicePolicy name relation semantic left right) s valid =
    updated_fits kind.ServicePolicy name (replaced_by (policy name relation semantic left right)) (absent_names kind.ServicePolicy (policy name relation semantic left right) s) s
carried_fits (command.DeleteServicePolicy name) s valid = deleted_fits kind.ServicePolicy Name name s
carried_fits (command.CreateEdgeRouterPolicy name semantic left right) s valid = made_fits kind.EdgeRouterPolicy (policy name IdentityRouter semantic left right) s
carried_fits (command.UpdateEdgeRouterPolicy name semantic left right) s valid =
    updated_fits kind.EdgeRouterPolicy name (replaced_by (policy name IdentityRouter semantic left right)) (absent_names kind.EdgeRouterPolicy (policy name IdentityRouter semantic left right) s) s
carried_fits (command.DeleteEdgeRouterPolicy name) s valid = deleted_fits kind.EdgeRouterPolicy Name name s
carried_fits (command.CreateServiceEdgeRouterPolicy name semantic left right) s valid = made_fits kind.ServiceEdgeRouterPolicy (policy name ServiceRouter semantic left right) s
carried_fits (command.UpdateServiceEdgeRouterPolicy name semantic left right) s valid =
    updated_fits kind.ServiceEdgeRouterPolicy name (replaced_by (policy name ServiceRouter semantic left right)) (absent_names kind.ServiceEdgeRouterPolicy (policy name ServiceRouter semantic left right) s) s
carried_fits (command.DeleteServiceEdgeRouterPolicy name) s valid = deleted_fits kind.ServiceEdgeRouterPolicy Name name s
carried_fits (command.CreateLink name a b cost latency_a latency_b) s valid =
    carried_out_fits (refusal_of_create_link name a b s) s (Made s.links.next) (after_create_link name a b cost latency_a latency_b s) refl
carried_fits (command.SetLinkCost link cost) s valid =
    carried_out_fits (unknown_if_absent Link (link_named s.links.rows link)) s Done (after_set_link_cost link cost s) refl
carried_fits (command.ReportLatency link router latency) s valid =
    carried_out_fits (refusal_of_report link router s) s Done (after_report_latency link router latency s) refl
carried_fits (command.ReportState link router up) s valid =
    carried_out_fits (refusal_of_report link router s) s Done (after_report_state link up s) refl
carried_fits (command.DeleteLink link) s valid =
    deleted_fits kind.Link Link link s
carried_fits (command.SetLeastRouterCost cost) s valid = refl
carried_fits (command.CreateTerminator service router instance host cost precedence) s valid =
    carried_out_fits (refusal_of_create_terminator service router host s) s (Made s.terminators.next)
    (after_create_terminator service router instance host cost precedence s) refl
carried_fits (command.UpdateTerminator n cost precedence) s valid =
    carried_out_fits (no_such_terminator n s) s Done (after_update_terminator n cost precedence s) refl
carried_fits (command.DeleteTerminator n) s valid =
    carried_out_fits (no_such_terminator n s) s Done (after_remove kind.Terminator n s) refl
carried_fits (command.CreateCircuit identity service ingress instance) s valid = create_fits (ask_of identity service ingress instance s) s valid
carried_fits (command.DeleteCircuit n) s valid =
    carried_out_fits (no_such_circuit n s) s Done (after_remove kind.Circuit n s) refl
carried_fits (command.Explain identity service ingress instance) s valid = explain_fits (ask_of identity service ingress instance s) s valid
carried_fits (command.VerifyRoute identity service ingress instance chosen links potentials routers terminator total) s valid = refl
carried_fits (command.ShowCircuit n) s valid =
    shown_fits (no_such_circuit n s) s (option_map_or (shown_circuit s) (at s.circuits.rows n) Done) (shown_fit n s valid)
carried_fits (command.ShowGrants identity) s valid =
    let i = unwrap_or (entity_named s.identities.rows identity) 0 in
    shown_fits (unknown_if_absent Identity (entity_named s.identities.rows identity)) s (grants_of i s) (grants_fit i s valid)
carried_fits (command.ListServices identity) s valid =
    let i = unwrap_or (entity_named s.identities.rows identity) 0 in
    shown_fits (unknown_if_absent Identity (entity_named s.identities.rows identity)) s (services_of i s) (services_fit i s valid)
carried_fits command.ShowCounts s valid = refl
carried_fits command.Compact s valid = refl
carried_fits (command.SetIntercept service i) s valid = carried_out_fits (no_such_service service s) s Done (after_set_intercept service i s) refl
carried_fits (command.ClearIntercept service) s valid = carried_out_fits (no_such_service service s) s Done (after_clear_intercept service s) refl
carried_fits (command.Pick identity udp to port) s valid =
    let i = unwrap_or (named kind.Identity s identity) 0 in
    shown_fits (unknown_if_absent Identity (named kind.Identity s identity)) s (option_map_or (picked_reply s) (picked_for i udp to port s) (Refused NoIntercept)) (pick_fits i udp to port s valid)
carried_fits (command.ListClashes identity service) s valid =
    let i = unwrap_or (named kind.Identity s identity) 0 in
    let n = unwrap_or (named kind.Service s service) 0 in
    shown_fits (or_then (unknown_if_absent Identity (named kind.Identity s identity)) (no_such_service service s)) s (clashes_reply i n s) (clashes_fit i n s valid)

-- So does the answer that is kept in a journal, also where it has no room there.
kept_fits : (most : ℕ) (reply : Reply) (s : State) (batch : List Op) (next : State) (place : Place) → keeps_limits reply ≡ true → keeps_limits (kept most reply s batch next place).0 ≡ true
kept_fits most reply s [] next place fits = fits
kept_fits most reply s (op ∷ ops) next place fits = by (has_no_room most s (op ∷ ops) place)
  where
    by : (full : Bool) → keeps_limits (cond {A = Reply × Machine} full (Refused JournalFull, record { state = s; place = Some place }) (reply, record { state = next; place = Some (behind (op ∷ ops) place) })).0 ≡ true
    by true = refl
    by false = fits

-- What becomes of Compact in a folder fits.
compacted_fits : (bounds : StoreBounds) (s : State) (place : Place) → keeps_limits (compacted_at bounds s place).0 ≡ true
compacted_fits bounds s place = by (nat_lt bounds.slot (compacted_size (byte_rows_of kept_format s))) (nat_lt place.mark bounds.mark)
  where
    by : (full room : Bool) → keeps_limits (cond {A = Reply × Machine} full (Refused JournalFull, record { state = s; place = Some place })
        (cond room (Done, record { state = s; place = Some (compacted_place s place) }) (Refused MarkFull, record { state = s; place = Some place }))).0 ≡ true
    by true room = refl
    by false true = refl
    by false false = refl

answered_fits : (bounds : StoreBounds) (compacts : Bool) (a : Reply × State) (s : State) (place : Option Place) → keeps_limits a.0 ≡ true → keeps_limits (answered bounds compacts a s place).0 ≡ true
answered_fits bounds compacts a s None fits = fits
answered_fits bounds true a s (Some place) fits = compacted_fits bounds s place
answered_fits bounds false a s (Some place) fits = kept_fits bounds.slot a.0 s (batch_between kept_format s (counted s a.1)) (counted s a.1) place fits

-- Nor does it matter who sends a command.
sent_fits : (may : Bool) (a : Reply × State) (s : State) → keeps_limits a.0 ≡ true → keeps_limits (cond {A = Reply × State} may a (Refused NotPermitted, s)).0 ≡ true
sent_fits true a s fits = fits
sent_fits false a s fits = refl

-- The reply of a machine to each command fits.
pub step_fits : (bounds : StoreBounds) (who : Who) (c : Command) (m : Machine) → ValidState m.state → keeps_limits (step bounds who c m).0 ≡ true
step_fits bounds who c m valid =
    answered_fits bounds (is_compact c && is_permitted who c) (answer who c m.state) m.state m.place
    (sent_fits (is_permitted who c) (carry c m.state) m.state (carried_fits c m.state valid))

-- A command that its sender may not send is refused, and one that it may send is carried out.
pub answer_refused : (who : Who) (c : Command) (s : State) → is_permitted who c ≡ false → ◌≡◌ {A = Reply × State} (Refused NotPermitted, s) (answer who c s)
answer_refused who c s e = ap (λ (may : Bool). cond {A = Reply × State} may (carry c s) (Refused NotPermitted, s)) (sym e)

pub answer_carried : (who : Who) (c : Command) (s : State) → is_permitted who c ≡ true → carry c s ≡ answer who c s
answer_carried who c s e = ap (λ (may : Bool). cond {A = Reply × State} may (carry c s) (Refused NotPermitted, s)) (sym e)

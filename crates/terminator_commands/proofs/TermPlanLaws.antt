-- What planning for a terminator has to show: that the refusals are the controller's, and that the change leads to the
-- controller's next state.
use Rattle.std.proofs.Common.{◌≡◌, ℕ, Bool, true, false, cond, not, nat_lt, List, Option, None, Some, Ok, Err, refl, sym, ◌∙◌, ap, subst, is_none}
use Rattle.std.specs.Prelude.{⊤}
use Rattle.std.specs.declared.result.Result.{Result}
use Rattle.std.proofs.lemmas.Option.{none-some}
use Rattle.std.specs.Option.{option_map, option_map_or}
use Rattle.ctrl_model.specs.declared.kinds.Kind.TheVariants as kind
use Rattle.ctrl_model.specs.declared.kinds.Precedence.{Precedence}
use Rattle.ctrl_model.specs.declared.kinds.Relation.TheVariants.{Bind}
use Rattle.ctrl_model.specs.declared.refusals.Field.{Field}
use Rattle.ctrl_model.specs.declared.refusals.Field.TheVariants as field
use Rattle.ctrl_model.specs.declared.refusals.Refusal.{Refusal}
use Rattle.ctrl_model.specs.declared.refusals.Refusal.TheVariants.{Full, NotBindable, Unknown}
use Rattle.ctrl_model.specs.declared.replies.Reply.TheVariants.{Made}
use Rattle.ctrl_model.specs.ValueForms.{is_cost}
use Rattle.ctrl_model.specs.Grants.{count}
use Rattle.ctrl_model.specs.Numbered.{with_new}
use Rattle.ctrl_model.specs.Rules.{or_then, refuse_if, carried_out, at_number}
use Rattle.ctrl_model.specs.State.{State, Terminator, entity_named, router_named}
use Rattle.ctrl_model.specs.TerminatorCommands.{create_terminator, refusal_of_create_terminator, after_create_terminator, lacks_bind}
use Rattle.entity_store.specs.EntityTables.{Tables}
use Rattle.grant_denorm.specs.MovedCounts.{AreCountsOf}
use Rattle.grant_denorm.specs.PairCounts.{count_of}
use Rattle.terminators.specs.TermTables.{TermTables}
use Rattle.terminators.specs.TermRules.{has_term_room, is_not_bindable, may_add}
use Rattle.terminators.specs.declared.store.TermFault.{TermFault}
use Rattle.terminators.specs.declared.store.TermFault.TheVariants as fault
use Rattle.model_laws.specs.Plans.{refused, changed, tells_change}
use Rattle.model_laws.specs.declared.plans.Plan.{Plan}
use Rattle.terminators.specs.declared.changes.TermChange.{TermChange}
use Rattle.model_laws.proofs.PlannedLaws.{plans_refused, plans_carried}
use Rattle.terminators.specs.declared.changes.TermChange.TheVariants as change
use Rattle.terminator_commands.specs.declared.planning.Places.{Places}
use Rattle.terminator_commands.specs.TermChanges.{terms_of, with_terms, over, after_term_change}
use Rattle.terminator_commands.specs.TermPlans.{PlansTerms, TellsChange}
use Rattle.terminator_commands.specs.PlannedTerms.{unknown_place, named_host, lacks_host, plan_of_add, ArePlaced, PlansIn}

-- a name that is unknown is the controller's refusal
pub create_unknown : (t : Tables) (k : TermTables) (bind : List ((ℕ × ℕ) × ℕ)) (service router instance : List ℕ) (host : Option (List ℕ)) (cost : ℕ) (precedence : Precedence) (f : Field)
    → unknown_place t service router host ≡ Some f → PlansIn (refused (Unknown f)) (create_terminator service router instance host cost precedence) t k bind
create_unknown t k bind service router instance host cost precedence f e = λ s counts.
    plans_refused (refusal_of_create_terminator service router host (over t k s)) (Unknown f) (over t k s) (Made k.terminators.next) (after_create_terminator service router instance host cost precedence (over t k s))
    (by (is_none (entity_named t.services.rows service)) (is_none (router_named t.routers.rows router)) (lacks_host t host)
    (or_then (refuse_if (not (has_term_room k)) (Full kind.Terminator)) (refuse_if (lacks_bind (over t k s) (named_host t host) (entity_named t.services.rows service)) NotBindable)) e)
  where
    by : (a b c : Bool) (later : Option Refusal) → cond a (Some field.Service) (cond b (Some field.Router) (cond c (Some field.Host) None)) ≡ Some f
        → or_then (refuse_if a (Unknown field.Service)) (or_then (refuse_if b (Unknown field.Router)) (or_then (refuse_if c (Unknown field.Host)) later)) ≡ Some (Unknown f)
    by true b c later e = ap (option_map Unknown) e
    by false true c later e = ap (option_map Unknown) e
    by false false true later e = ap (option_map Unknown) e
    by false false false later e = absurd (none-some f e)

-- a host that lacks Bind by the counts lacks it in the state
lacks_by_counts : (o : Option ℕ) (n : ℕ) (s : State) (bind : List ((ℕ × ℕ) × ℕ)) → AreCountsOf (count Bind s) bind
    → lacks_bind s o (Some n) ≡ option_map_or (λ h. not (nat_lt 0 (count_of bind h n))) o false
lacks_by_counts None n s bind counts = refl
lacks_by_counts (Some h) n s bind counts = ap (λ m. not (nat_lt 0 m)) (sym (counts h n))

-- where the names are known, the plan to add is the controller's answer
pub create_planned : (t : Tables) (k : TermTables) (bind : List ((ℕ × ℕ) × ℕ)) (service router : List ℕ) (host : Option (List ℕ)) (places : Places) (term : Terminator)
    → ArePlaced t service router host places → term.service ≡ places.service.0 → term.router ≡ places.router.0 → term.host ≡ option_map (λ h. h.0) places.host → is_cost term.cost ≡ true
    → PlansIn (plan_of_add term k bind) (create_terminator service router term.instance host term.cost term.precedence) t k bind
create_planned t k bind service router host places term placed es er eh cost = λ s counts.
    let S : State = over t k s in
    let service_is : entity_named t.services.rows service ≡ Some term.service = placed.service_named ∙ ap Some (sym es) in
    let router_is : router_named t.routers.rows router ≡ Some term.router = placed.router_named ∙ ap Some (sym er) in
    let host_is : named_host t host ≡ term.host = placed.host_named ∙ sym eh in
    let full : Option Refusal = refuse_if (not (has_term_room k)) (Full kind.Terminator) in
    let refusal : refusal_of_create_terminator service router host S ≡ or_then full (refuse_if (is_not_bindable term bind) NotBindable) =
    (λ i. or_then (refuse_if (is_none (service_is i)) (Unknown field.Service)) (or_then (refuse_if (is_none (router_is i)) (Unknown field.Router))
    (or_then (refuse_if (placed.host_there i) (Unknown field.Host)) (or_then full (refuse_if (lacks_bind S (host_is i) (service_is i)) NotBindable)))))
    ∙ ap (λ b. or_then full (refuse_if b NotBindable)) (lacks_by_counts term.host term.service S bind counts) in
    let effect : State = after_create_terminator service router term.instance host term.cost term.precedence S in
    let leads : with_terms (after_term_change (change.Add term) k) S ≡ effect =
    sym (λ i. at_number (service_is i) S (λ n. at_number (router_is i) S (λ r. record S {
      terminators = with_new (record { service = n; router = r; instance = term.instance; host = host_is i; cost = term.cost; precedence = term.precedence }) S.terminators;
    }))) in
    by S effect (refusal_of_create_terminator service router host S) (has_term_room k) (is_not_bindable term bind) refl refusal leads
  where
    by : (s effect : State) (o : Option Refusal) (room lacks : Bool) → has_term_room (terms_of s) ≡ room
        → o ≡ or_then (refuse_if (not room) (Full kind.Terminator)) (refuse_if lacks NotBindable)
        → with_terms (after_term_change (change.Add term) (terms_of s)) s ≡ effect
        → PlansTerms (cond room (cond lacks (refused NotBindable) (changed (Made s.terminators.next) (change.Add term))) (refused (Full kind.Terminator)))
        (carried_out o s (Made s.terminators.next) effect) s
    by s effect o false lacks is e leads = plans_refused o (Full kind.Terminator) s (Made s.terminators.next) effect e
    by s effect o true true is e leads = plans_refused o NotBindable s (Made s.terminators.next) effect e
    by s effect o true false is e leads = plans_carried (change.Add term) o s (Made s.terminators.next) effect e refl (is, cost) leads

-- a terminator that may be added is planned to be
add_told : (n : ℕ) (term : Terminator) (room lacks : Bool) → ◌≡◌ {A = Result ⊤ TermFault} (cond room (cond lacks (Err fault.NotBindable) (Ok tt)) (Err fault.Full)) (Ok tt)
    → tells_change (cond room (cond lacks (refused NotBindable) (changed (Made n) (change.Add term))) (refused {C = TermChange} (Full kind.Terminator))).reply ≡ true
add_told n term true false may = refl
add_told n term true true may = absurd (cc)
add_told n term false lacks may = absurd (cc)

-- where the names are known and a terminator may be added, the answer tells a change
pub create_told : (t : Tables) (k : TermTables) (bind : List ((ℕ × ℕ) × ℕ)) (service router : List ℕ) (host : Option (List ℕ)) (places : Places) (term : Terminator)
    → ArePlaced t service router host places → term.service ≡ places.service.0 → term.router ≡ places.router.0 → term.host ≡ option_map (λ h. h.0) places.host → is_cost term.cost ≡ true
    → may_add term k bind ≡ Ok tt
    → TellsChange (create_terminator service router term.instance host term.cost term.precedence) t k bind
create_told t k bind service router host places term placed es er eh cost may = λ s counts.
    ap tells_change (sym (create_planned t k bind service router host places term placed es er eh cost s counts).reply)
    ∙ add_told k.terminators.next term (has_term_room k) (is_not_bindable term bind) may

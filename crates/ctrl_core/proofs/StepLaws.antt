-- What taking the steps of a plan has to show: that the kept counts have room for them, and that what a core keeps stays.
use Rattle.std.proofs.Common.{◌≡◌, ℕ, zero, suc, ◌≤◌, ◌==◌, nat_lt, ◌||◌, ◌&&◌, Bool, true, false, not, cond, List, [], ◌∷◌, length, is_some, Option, None, Some, refl, sym, ◌∙◌, ap, subst, arith, eqb-true, eq-eqb, lt-ltb, ltb-true}
use Rattle.std.proofs.lemmas.Bool.{and_parts, ltb-false}
use Rattle.std.proofs.lemmas.List.{nil_from_length}
use Rattle.std.proofs.lemmas.List.Sums.{sum_by-cons}
use Rattle.grant_denorm.specs.declared.deltas.Delta.{Delta}
use Rattle.grant_denorm.specs.Deltas.{downs, is_at}
use Rattle.ctrl_model.specs.declared.kinds.Kind.TheVariants as kind
use Rattle.ctrl_model.specs.declared.kinds.Relation.{Relation}
use Rattle.ctrl_model.specs.declared.kinds.Relation.TheVariants.{Dial, Bind, IdentityRouter, ServiceRouter}
use Rattle.ctrl_model.specs.Grants.{count, policies_for}
use Rattle.ctrl_model.specs.Limits.{limit}
use Rattle.ctrl_model.specs.Membership.{Among}
use Rattle.ctrl_model.specs.Settling.{settle}
use Rattle.ctrl_model.specs.State.{State}
use Rattle.ctrl_model.specs.ValidState.{ValidState}
use Rattle.grant_denorm.specs.PairCounts.{count_of}
use Rattle.grant_moves.proofs.CountBounds.{has_count_room}
use Rattle.policy_store.specs.declared.steps.GrantSteps.{GrantSteps}
use Rattle.ctrl_core.specs.declared.plans.Planned.{Planned}
use Rattle.core_stores.specs.declared.stores.Grants.{Grants}
use Rattle.core_stores.specs.declared.stores.Stores.{Stores}
use Rattle.core_stores.specs.CarriedStates.{Carries}
use Rattle.grant_denorm.specs.TakenSteps.{HaveRoom, Taken}
use Rattle.circuit_settling.specs.declared.granting.GrantsAfter.{GrantsAfter}
use Rattle.core_stores.specs.declared.changes.Change.{Change}
use Rattle.ctrl_model.specs.Numbered.{Between}
use Rattle.model_laws.specs.Plans.{CanLeadBy, led_by}
use Rattle.model_laws.proofs.RevokedLaws.{AreGranted-from, revoke-settle}
use Rattle.ctrl_core.specs.ChangedStores.{CanSettle, next_state}
use Rattle.ctrl_core.specs.Changes.{CanChange, CanLead, after_change, led}
use Rattle.ctrl_core.proofs.StateParts.{parts_after, terms_ascend}
use Rattle.circuit_settling.specs.declared.looking.Look.TheVariants.{Paths}
use Rattle.circuit_settling.specs.declared.emptying.Pairs.{Pairs}
use Rattle.circuit_settling.specs.EmptiedPairs.{TellEmptied, counts_after, has_no_pair, no_pairs, pairs_of}
use Rattle.ctrl_core.specs.LookedCircuits.{LooksAt, StillGranted}
use Rattle.ctrl_core.specs.SettledParts.{AreGrantsAfter}
use Rattle.ctrl_core.proofs.LookedCircuits.{still_of}
use Rattle.ctrl_core.proofs.StillGranted.{StayCounted}
use Rattle.grant_steps.specs.LeadingSteps.{LeadAllCounts}
use Rattle.core_stores.specs.OpenCircuits.{CountsOpen}
use Rattle.policy_store.specs.StepsOfRelations.{only_rise, steps_of, takes_nothing}
use Rattle.ctrl_core.specs.KeptState.{Keeps, IsGranted}
use Rattle.core_stores.specs.StoredState.{counts_of, state_of}

-- a valid state has at most as many policies of a kind as there may be service policies
policies_few : (r : Relation) (s : State) → ValidState s → length (policies_for r s) ≤ limit kind.ServicePolicy
policies_few Dial s valid = (valid.kinds kind.ServicePolicy).numbers.few
policies_few Bind s valid = (valid.kinds kind.ServicePolicy).numbers.few
policies_few IdentityRouter s valid = let few = (valid.kinds kind.EdgeRouterPolicy).numbers.few in omega (arith, few)
policies_few ServiceRouter s valid = let few = (valid.kinds kind.ServiceEdgeRouterPolicy).numbers.few in omega (arith, few)

pub steps_fit : (st : Stores) (t : State) (steps : GrantSteps) → Keeps st → ValidState t → LeadAllCounts (state_of st) t steps → (r : Relation) → HaveRoom (counts_of r st.grants) (steps_of r steps)
steps_fit st t steps keeps valid leads r = record {
  least = λ a b. let least = (leads r).least a b in let counted = keeps.counts r a b in omega (arith, least, counted);
  most = λ a b.
      let room = has_count_room r (state_of st) t (steps_of r steps) (leads r) (policies_few r (state_of st) keeps.valid) (policies_few r t valid) a b in
      let counted = keeps.counts r a b in
      omega (arith, room, counted);
}

-- the counts that are kept have room for steps to the counts of a valid state
pub room_for_steps : (st mid : Stores) (t : State) (steps : GrantSteps) → Keeps st → ValidState t → LeadAllCounts (state_of st) t steps → mid.grants ≡ st.grants
    → (r : Relation) → HaveRoom (counts_of r mid.grants) (steps_of r steps)
room_for_steps st mid t steps keeps valid leads same r =
    subst (λ (g : Grants). HaveRoom (counts_of r g) (steps_of r steps)) (sym same) (steps_fit st t steps keeps valid leads r)

-- a state and the counts after the steps to it belong together
pub keeps_with_steps : (st mid : Stores) (g : Grants) (t : State) (steps : GrantSteps) → Keeps st → ValidState t → LeadAllCounts (state_of st) t steps → Carries st mid t → CountsOpen mid
    → ((r : Relation) → Taken (counts_of r mid.grants) (count_of (counts_of r g)) (steps_of r steps)) → Keeps (record mid { grants = g })
keeps_with_steps st mid g t steps keeps valid leads carries loads taken = record {
  valid = subst ValidState (sym carries.next) valid;
  held = carries.held;
  loads = loads;
  counts = λ r a b.
      let moved = (leads r).moves a b in
      let stepped = taken r a b in
      let before = keeps.counts r a b in
      let same : count_of (counts_of r mid.grants) a b ≡ count_of (counts_of r st.grants) a b = ap (λ (q : Grants). count_of (counts_of r q) a b) carries.counts in
      let there : count r (state_of mid) a b ≡ count r t a b = ap (λ (s : State). count r s a b) carries.next in
      omega (arith, moved, stepped, before, same, there);
}

-- the same of the state to which a plan leads
pub steps_have_room : (st mid : Stores) (p : Planned) → Keeps st → CanLead p (state_of st) → mid.grants ≡ st.grants → (r : Relation) → HaveRoom (counts_of r mid.grants) (steps_of r p.steps)
steps_have_room st mid p keeps can = room_for_steps st mid (led p (state_of st)) p.steps keeps can.valid can.counts

pub keeps_after : (st mid : Stores) (g : Grants) (p : Planned) → Keeps st → CanLead p (state_of st) → Carries st mid (led p (state_of st)) → CountsOpen mid
    → ((r : Relation) → Taken (counts_of r mid.grants) (count_of (counts_of r g)) (steps_of r p.steps)) → Keeps (record mid { grants = g })
keeps_after st mid g p keeps can = keeps_with_steps st mid g (led p (state_of st)) p.steps keeps can.valid can.counts

-- the kept counts, relation by relation
pub as_pairs : (g : Grants) (r : Relation) → pairs_of r (record { dial = g.dial; bind = g.bind; identity_router = g.identity_router; service_router = g.service_router }) ≡ counts_of r g
as_pairs g Dial = refl
as_pairs g Bind = refl
as_pairs g IdentityRouter = refl
as_pairs g ServiceRouter = refl

-- settling changes no count
settled_count : (r : Relation) (t : State) (a b : ℕ) → count r (settle t) a b ≡ count r t a b
settled_count Dial t a b = refl
settled_count Bind t a b = refl
settled_count IdentityRouter t a b = refl
settled_count ServiceRouter t a b = refl

-- they are the grant counts of the state to which the steps lead
pub grants_after_are : (st : Stores) (t : State) (steps : GrantSteps) (after : GrantsAfter) → Keeps st → LeadAllCounts (state_of st) (settle t) steps
    → ((r : Relation) → Taken (counts_of r st.grants) (counts_after r after) (steps_of r steps)) → AreGrantsAfter t after
grants_after_are st t steps after keeps leads stepped r a b =
    let moved = (leads r).moves a b in
    let before = keeps.counts r a b in
    let step = stepped r a b in
    let same = settled_count r t a b in
    omega (arith, moved, before, step, same)

-- no count falls by steps that only rise
no_downs : (ds : List Delta) (a b : ℕ) → only_rise ds ≡ true → downs ds a b ≡ 0
no_downs [] a b e = refl
no_downs (d ∷ ds) a b e =
    let up = and_parts d.up (only_rise ds) e in
    let rest = no_downs ds a b up.1 in
    let one : ◌≡◌ {A = ℕ} (cond (not d.up && is_at a b d) 1 0) 0 = ap (λ u. cond (not u && is_at a b d) 1 0) up.0 in
    let all = sum_by-cons (λ x. cond (not x.up && is_at a b x) 1 0) d ds in omega (arith, rest, one, all)

each_rises : (steps : GrantSteps) → takes_nothing steps ≡ true → (r : Relation) → only_rise (steps_of r steps) ≡ true
each_rises steps e r = by r
  where
    parts : (only_rise steps.dial.items ≡ true) × ((only_rise steps.bind.items && (only_rise steps.identity_router.items && only_rise steps.service_router.items)) ≡ true)
    parts = and_parts (only_rise steps.dial.items) _ e

    more : (only_rise steps.bind.items ≡ true) × ((only_rise steps.identity_router.items && only_rise steps.service_router.items) ≡ true)
    more = and_parts (only_rise steps.bind.items) _ parts.1

    by : (r : Relation) → only_rise (steps_of r steps) ≡ true
    by Dial = parts.0
    by Bind = more.0
    by IdentityRouter = (and_parts (only_rise steps.identity_router.items) (only_rise steps.service_router.items) more.1).0
    by ServiceRouter = (and_parts (only_rise steps.identity_router.items) (only_rise steps.service_router.items) more.1).1

-- where no count falls, what is granted still is
pub rise_counted : (s t : State) (steps : GrantSteps) → takes_nothing steps ≡ true → LeadAllCounts s (settle t) steps → StayCounted no_pairs s t
rise_counted s t steps none leads r a b _ some =
    let moved = (leads r).moves a b in
    let down = no_downs (steps_of r steps) a b (each_rises steps none r) in
    let same = settled_count r t a b in
    let was = ltb-true 0 (count r s a b) some in
    lt-ltb 0 (count r t a b) (omega (arith, moved, down, same, was))

-- where the pairs without a count are told at which one falls, what is granted still is at the others
pub emptied_counted : (s t : State) (steps : GrantSteps) (after : GrantsAfter) (g : Pairs) → LeadAllCounts s (settle t) steps → AreGrantsAfter t after
    → ((r : Relation) → TellEmptied (steps_of r steps) (counts_after r after) (pairs_of r g)) → StayCounted g s t
emptied_counted s t steps after g leads counts emptied r a b none some = by (count r t a b) refl
  where
    untold : count r t a b ≡ 0 → nat_lt 0 (downs (steps_of r steps) a b) ≡ false
    untold gone = fewer (nat_lt 0 (downs (steps_of r steps) a b)) (counts_after r after a b == 0) (eq-eqb (counts_after r after a b) 0 (counts r a b ∙ gone)) (sym (emptied r a b) ∙ none)
      where
        fewer : (x y : Bool) → y ≡ true → (x && y) ≡ false → x ≡ false
        fewer true y e f = sym e ∙ f
        fewer false y e f = refl

    by : (n : ℕ) → count r t a b ≡ n → nat_lt 0 (count r t a b) ≡ true
    by zero e =
        let moved = (leads r).moves a b in
        let down = ltb-false 0 (downs (steps_of r steps) a b) (untold e) in
        let same = settled_count r t a b in
        let was = ltb-true 0 (count r s a b) some in
        absurd (omega (arith, moved, down, same, was, e))
    by (suc n) e = lt-ltb 0 (count r t a b) (omega (arith, e))

-- lists without elements are empty
no_length : {A : Type 0} (xs : List A) → (length xs == 0) ≡ true → xs ≡ []
no_length xs e = nil_from_length xs (eqb-true (length xs) 0 e)

-- where there is no pair, no circuit needs one
pub without_pairs : (g : Pairs) (s t : State) → has_no_pair g ≡ true → StillGranted g s t → StillGranted no_pairs s t
without_pairs g s t none = subst (λ q. StillGranted q s t) same
  where
    d : ((length g.dial == 0) ≡ true) × (((length g.bind == 0) && ((length g.identity_router == 0) && (length g.service_router == 0))) ≡ true)
    d = and_parts (length g.dial == 0) _ none

    b : ((length g.bind == 0) ≡ true) × (((length g.identity_router == 0) && (length g.service_router == 0)) ≡ true)
    b = and_parts (length g.bind == 0) _ d.1

    r : ((length g.identity_router == 0) ≡ true) × ((length g.service_router == 0) ≡ true)
    r = and_parts (length g.identity_router == 0) (length g.service_router == 0) b.1

    same : g ≡ no_pairs
    same = λ i. record { dial = no_length g.dial d.0 i; bind = no_length g.bind b.0 i; identity_router = no_length g.identity_router r.0 i; service_router = no_length g.service_router r.1 i }

-- where there was no circuit, or what granted each stood and no count falls, those alone are looked at whose path is taken
pub stay_granted : (c : Change) (st : Stores) → CanSettle st c → (pathless : List ℕ) (granted : Bool) (steps : GrantSteps) → IsGranted granted (state_of st) → LeadAllCounts (state_of st) (next_state st c) steps
    → ((length st.circuits.circuits.rows == 0) || (granted && takes_nothing steps)) ≡ true → LooksAt c st pathless Paths
stay_granted c st can pathless granted steps is leads told = by (length st.circuits.circuits.rows == 0) refl told
  where
    by : (b : Bool) → (length st.circuits.circuits.rows == 0) ≡ b → (b || (granted && takes_nothing steps)) ≡ true → LooksAt c st pathless Paths
    by true e told = λ x m. absurd (subst (Among x) (no_length st.circuits.circuits.rows e) m)
    by false e told =
        let both = and_parts granted (takes_nothing steps) told in
        still_of c st can no_pairs (AreGranted-from (state_of st) (is both.0)) (rise_counted (state_of st) (after_change c (state_of st)) steps both.1 leads)

-- what granted each circuit stands after a change, and else where it stood before
pub granted_after : (granted : Bool) (o : Option Change) (st : Stores) → Keeps st → CanLeadBy CanChange o (state_of st) → ValidState (led_by after_change o (state_of st)) → IsGranted granted (state_of st)
    → IsGranted (granted || is_some o) (led_by after_change o (state_of st))
granted_after granted None st keeps can valid is = λ e. is (plain granted ∙ e)
  where
    plain : (b : Bool) → b ≡ (b || false)
    plain true = refl
    plain false = refl
granted_after granted (Some c) st keeps can valid is = λ e.
    let then : CanSettle st c = record { before = keeps.valid; held = keeps.held; can = can; valid = valid } in
    revoke-settle (after_change c (state_of st)) (subst (λ s. Between 1 s.terminators.next s.terminators.rows) (sym (parts_after c st then)) (terms_ascend c st then))

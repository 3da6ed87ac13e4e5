-- What applying a change of a policy has to show: that the tables allow it, and that they are those after it, with the attributes of
-- all policies in use.
use Rattle.std.proofs.Common.{◌≡◌, ℕ, ◌+◌, ◌<◌, ◌≤◌, ◌==◌, true, false, cond, not, ◌&&◌, nat_lt, List, [], ◌++◌, length, Option, None, Some, is_some, is_none, refl, sym, ◌∙◌, ap, subst, arith, lt-ltb}
use Rattle.std.proofs.lemmas.Bool.{false≢true}
use Rattle.std.specs.List.{flat_map}
use Rattle.std.specs.Option.{option_map_or}
use Rattle.std.specs.Str.{bytes_eq}
use Rattle.ctrl_model.specs.declared.kinds.Kind.{Kind}
use Rattle.ctrl_model.specs.declared.kinds.Kind.TheVariants as kind
use Rattle.ctrl_model.specs.Numbered.{at, is_present, Between}
use Rattle.ctrl_model.specs.PolicyCommands.{replaced_by}
use Rattle.ctrl_model.specs.Rules.{side_attributes, attributes_in_use}
use Rattle.ctrl_model.specs.State.{State, Policy, policy_named, start}
use Rattle.ctrl_model.specs.Settling.{settle}
use Rattle.ctrl_model.specs.ValidState.{ValidState}
use Rattle.ctrl_model.proofs.NumberedLaws.{first_where-found}
use Rattle.entity_store.specs.EntityTables.{Tables}
use Rattle.entity_store.specs.HeldUses.{policy_attributes}
use Rattle.entity_store.specs.AttributeUses.{times, held_times, entity_attributes, has_attribute_room, AreHeld, Holds}
use Rattle.policy_store.specs.PolicyTables.{PolicyTables, is_policy_kind, policies, number_of}
use Rattle.policy_store.specs.PolicyTables as tables
use Rattle.policy_store.specs.PolicyRules.{is_there, can_put, put_in}
use Rattle.entity_store.proofs.UseLaws.{times-append}
use Rattle.entity_store.proofs.TimesLaws.{Between-from_map, times-at}
use Rattle.entity_store.proofs.RoomLaws.{room_by_uses}
use Rattle.entity_store.proofs.InUseLaws.{in_use-split, uses_in_state, has_room_in_state}
use Rattle.model_laws.proofs.NewRecords.{new_record}
use Rattle.policy_store.specs.PolicyChanges.{policies_in, with_tables, with_policy, with_replaced, without_policy}
use Rattle.policy_commands.proofs.PolicyUses.{names_of, policy_added, policy_replaced, policy_removed}
use Rattle.policy_store.specs.declared.changes.PolicyChange.TheVariants as change
use Rattle.policy_commands.specs.RuledPolicies.{LetsPolicyGo, Rules}
use Rattle.policy_commands.proofs.Arounds.{Around, HoldsPolicies, state_of}

-- the attributes of all policies of some tables
abbrev pub attributes_of : PolicyTables → List (List ℕ)
attributes_of p = policy_attributes (with_tables p start)

-- ---- the state around tables whose policies change

pub policies_seen : (k : Kind) (st : Around) → policies_in k (state_of st) ≡ policies k st.policies
policies_seen kind.ServicePolicy st = refl
policies_seen kind.EdgeRouterPolicy st = refl
policies_seen kind.ServiceEdgeRouterPolicy st = refl
policies_seen _ st = refl

seen_there : (k : Kind) (n : ℕ) (p : Policy) (st : Around) → at (policies k st.policies) n ≡ Some p → at (policies_in k (state_of st)) n ≡ Some p
seen_there k n p st stands = ap (λ rows. at rows n) (policies_seen k st) ∙ stands

state_with : (k : Kind) (p : Policy) (st : Around) → state_of (record st { policies = tables.with_policy k p st.policies }) ≡ with_policy k p (state_of st)
state_with kind.ServicePolicy p st = refl
state_with kind.EdgeRouterPolicy p st = refl
state_with kind.ServiceEdgeRouterPolicy p st = refl
state_with _ p st = refl

state_replaced : (k : Kind) (n : ℕ) (p : Policy) (st : Around) → state_of (record st { policies = tables.with_replaced k n p st.policies }) ≡ with_replaced k n p (state_of st)
state_replaced kind.ServicePolicy n p st = refl
state_replaced kind.EdgeRouterPolicy n p st = refl
state_replaced kind.ServiceEdgeRouterPolicy n p st = refl
state_replaced _ n p st = refl

state_without : (k : Kind) (n : ℕ) (st : Around) → state_of (record st { policies = tables.without_policy k n st.policies }) ≡ without_policy k n (state_of st)
state_without kind.ServicePolicy n st = refl
state_without kind.EdgeRouterPolicy n st = refl
state_without kind.ServiceEdgeRouterPolicy n st = refl
state_without _ n st = refl

-- ---- the numbers of policies ascend

-- the next number of a kind of policy
abbrev next_in : Kind → State → ℕ
next_in kind.ServicePolicy s = s.service_policies.next
next_in kind.EdgeRouterPolicy s = s.edge_router_policies.next
next_in kind.ServiceEdgeRouterPolicy s = s.service_edge_router_policies.next
next_in _ s = 1

ordered : (k : Kind) (s : State) → is_policy_kind k ≡ true → ValidState s → Between 1 (next_in k s) (policies_in k s)
ordered kind.ServicePolicy s is valid = (valid.kinds kind.ServicePolicy).numbers.ordered
ordered kind.EdgeRouterPolicy s is valid = (valid.kinds kind.EdgeRouterPolicy).numbers.ordered
ordered kind.ServiceEdgeRouterPolicy s is valid = (valid.kinds kind.ServiceEdgeRouterPolicy).numbers.ordered
ordered _ s is valid = absurd (false≢true is)

ordered_before : (k : Kind) (n : ℕ) (p : Policy) (s : State) → is_policy_kind k ≡ true → ValidState (settle (with_replaced k n p s)) → Between 1 (next_in k s) (policies_in k s)
ordered_before kind.ServicePolicy n p s is valid =
    Between-from_map (λ (x : ℕ × Policy). cond (x.0 == n) (replaced_by p x.1) x.1) s.service_policies.next s.service_policies.rows 1 (valid.kinds kind.ServicePolicy).numbers.ordered
ordered_before kind.EdgeRouterPolicy n p s is valid =
    Between-from_map (λ (x : ℕ × Policy). cond (x.0 == n) (replaced_by p x.1) x.1) s.edge_router_policies.next s.edge_router_policies.rows 1 (valid.kinds kind.EdgeRouterPolicy).numbers.ordered
ordered_before kind.ServiceEdgeRouterPolicy n p s is valid =
    Between-from_map (λ (x : ℕ × Policy). cond (x.0 == n) (replaced_by p x.1) x.1) s.service_edge_router_policies.next s.service_edge_router_policies.rows 1
    (valid.kinds kind.ServiceEdgeRouterPolicy).numbers.ordered
ordered_before _ n p s is valid = absurd (false≢true is)

-- ---- the attributes of policies after a change

more_attributes : (k : Kind) (p : Policy) (st : Around) → is_policy_kind k ≡ true → (x : List ℕ)
    → times x (attributes_of (tables.with_policy k p st.policies)) ≡ times x (attributes_of st.policies) + times x (names_of p)
more_attributes k p st is x =
    let before = in_use-split x st.entities (state_of st) in
    let after = in_use-split x st.entities (state_of (record st { policies = tables.with_policy k p st.policies })) in
    let same = ap (λ (s : State). times x (attributes_in_use s)) (state_with k p st) in
    let more = policy_added k p (state_of st) is x in
    omega (arith, before, after, same, more)

other_attributes : (k : Kind) (n : ℕ) (p old : Policy) (st : Around) → is_policy_kind k ≡ true → ValidState (settle (with_replaced k n p (state_of st))) → at (policies k st.policies) n ≡ Some old → (x : List ℕ)
    → times x (attributes_of (tables.with_replaced k n p st.policies)) + times x (names_of old) ≡ times x (attributes_of st.policies) + times x (names_of p)
other_attributes k n p old st is valid stands x =
    let before = in_use-split x st.entities (state_of st) in
    let after = in_use-split x st.entities (state_of (record st { policies = tables.with_replaced k n p st.policies })) in
    let same = ap (λ (s : State). times x (attributes_in_use s)) (state_replaced k n p st) in
    let moved = policy_replaced k n p (state_of st) (next_in k (state_of st)) old is (ordered_before k n p (state_of st) is valid) (seen_there k n old st stands) x in
    omega (arith, before, after, same, moved)

fewer_attributes : (k : Kind) (n : ℕ) (old : Policy) (st : Around) → is_policy_kind k ≡ true → ValidState (state_of st) → at (policies k st.policies) n ≡ Some old → (x : List ℕ)
    → times x (attributes_of (tables.without_policy k n st.policies)) + times x (names_of old) ≡ times x (attributes_of st.policies)
fewer_attributes k n old st is valid stands x =
    let before = in_use-split x st.entities (state_of st) in
    let after = in_use-split x st.entities (state_of (record st { policies = tables.without_policy k n st.policies })) in
    let same = ap (λ (s : State). times x (attributes_in_use s)) (state_without k n st) in
    let fewer = policy_removed k n (state_of st) (next_in k (state_of st)) old is (ordered k (state_of st) is valid) (seen_there k n old st stands) x in
    omega (arith, before, after, same, fewer)

-- ---- one more policy

put_by : (taken : Option ℕ) (rows most n : ℕ) → taken ≡ None → rows < most → n < 4294967295 → (is_none taken && (nat_lt rows most && nat_lt n 4294967295)) ≡ true
put_by taken rows most n free few last = rw (free, lt-ltb rows most few, lt-ltb n 4294967295 last) refl

pub can_put_fresh : (k : Kind) (p : Policy) (st : Around) → is_policy_kind k ≡ true → ValidState (settle (with_policy k p (state_of st))) → can_put k p.name true st.policies ≡ true
can_put_fresh kind.ServicePolicy p st is valid =
    let new = new_record kind.ServicePolicy st.policies.service_policies p refl (valid.kinds kind.ServicePolicy) in
    put_by _ (length st.policies.service_policies.rows) 512 st.policies.service_policies.next new.named new.few new.last
can_put_fresh kind.EdgeRouterPolicy p st is valid =
    let new = new_record kind.EdgeRouterPolicy st.policies.edge_router_policies p refl (valid.kinds kind.EdgeRouterPolicy) in
    put_by _ (length st.policies.edge_router_policies.rows) 256 st.policies.edge_router_policies.next new.named new.few new.last
can_put_fresh kind.ServiceEdgeRouterPolicy p st is valid =
    let new = new_record kind.ServiceEdgeRouterPolicy st.policies.service_edge_router_policies p refl (valid.kinds kind.ServiceEdgeRouterPolicy) in
    put_by _ (length st.policies.service_edge_router_policies.rows) 256 st.policies.service_edge_router_policies.next new.named new.few new.last
can_put_fresh _ p st is valid = absurd (false≢true is)

pub room_to_put : (k : Kind) (p : Policy) (st : Around) → is_policy_kind k ≡ true → HoldsPolicies st → ValidState (settle (with_policy k p (state_of st))) → has_attribute_room st.entities [] (names_of p) ≡ true
room_to_put k p st is held valid =
    has_room_in_state st.entities (state_of st) [] (names_of p) (with_policy k p (state_of st)) held (λ x. let more = policy_added k p (state_of st) is x in omega (arith, more)) valid.attributes

pub ruled_with : (k : Kind) (p : Policy) (st : Around) (t : Tables) → is_policy_kind k ≡ true → HoldsPolicies st → Holds (names_of p) st.entities t
    → Rules (change.Add k p) st.entities t st.policies (put_in k p true st.policies)
ruled_with k p st t is held holds = record {
  policies_are = refl;
  entities_stay = holds.others;
  held = λ x. let more = holds.more x in let before = held x in let after = more_attributes k p st is x in omega (arith, more, before, after);
}

-- ---- a policy's uses go

pub are_held : (k : Kind) (n : ℕ) (p : Policy) (st : Around) → is_policy_kind k ≡ true → at (policies k st.policies) n ≡ Some p → HoldsPolicies st → AreHeld st.entities (names_of p)
are_held k n p st is stands held x = by k is stands
  where
    parts : times x (attributes_of st.policies) ≡ times x (flat_map side_attributes st.policies.service_policies.rows)
        + (times x (flat_map side_attributes st.policies.edge_router_policies.rows) + times x (flat_map side_attributes st.policies.service_edge_router_policies.rows))
    parts =
        let one = times-append x (flat_map side_attributes st.policies.service_policies.rows)
        (flat_map side_attributes st.policies.edge_router_policies.rows ++ flat_map side_attributes st.policies.service_edge_router_policies.rows) in
        let two = times-append x (flat_map side_attributes st.policies.edge_router_policies.rows) (flat_map side_attributes st.policies.service_edge_router_policies.rows) in
        omega (arith, one, two)

    by : (j : Kind) → is_policy_kind j ≡ true → at (policies j st.policies) n ≡ Some p → times x (names_of p) ≤ held_times x st.entities.held
    by kind.ServicePolicy is stands = let all = parts in let these = held x in let part = times-at names_of x st.policies.service_policies.rows n p stands in omega (arith, all, these, part)
    by kind.EdgeRouterPolicy is stands = let all = parts in let these = held x in let part = times-at names_of x st.policies.edge_router_policies.rows n p stands in omega (arith, all, these, part)
    by kind.ServiceEdgeRouterPolicy is stands =
        let all = parts in let these = held x in let part = times-at names_of x st.policies.service_edge_router_policies.rows n p stands in omega (arith, all, these, part)
    by _ is stands = absurd (false≢true is)

-- ---- a policy goes

pub ruled_without : (k : Kind) (n : ℕ) (st : Around) (mid : Tables) → is_policy_kind k ≡ true → ValidState (state_of st) → HoldsPolicies st → LetsPolicyGo k n st.policies st.entities mid
    → Rules (change.Remove k n) st.entities mid st.policies (tables.without_policy k n st.policies)
ruled_without k n st mid is valid held gone = record {
  policies_are = refl;
  entities_stay = gone.uses_go.others;
  held = λ x.
      let fewer = gone.uses_go.fewer x in let before = held x in
      let after = fewer_attributes k n gone.policy st is valid gone.stands x in
      omega (arith, fewer, before, after);
}

-- ---- a policy gets another's parts

pub present_before : (k : Kind) (n : ℕ) (p : Policy) (st : Around) → is_policy_kind k ≡ true → number_of k p.name st.policies ≡ Some n → ValidState (settle (with_replaced k n p (state_of st)))
    → is_there k n st.policies ≡ true
present_before k n p st is named valid =
    ap is_some (first_where-found (λ (q : Policy). bytes_eq q.name p.name) (next_in k (state_of st)) (policies k st.policies) 1 n
    (subst (λ rows. Between 1 (next_in k (state_of st)) rows) (policies_seen k st) (ordered_before k n p (state_of st) is valid)) named).stands

pub room_to_replace : (k : Kind) (n : ℕ) (p : Policy) (st : Around) (mid : Tables) → is_policy_kind k ≡ true → ValidState (settle (with_replaced k n p (state_of st))) → HoldsPolicies st
    → LetsPolicyGo k n st.policies st.entities mid → has_attribute_room mid [] (names_of p) ≡ true
room_to_replace k n p st mid is valid held gone =
    room_by_uses mid [] (names_of p) (attributes_in_use (with_replaced k n p (state_of st))) (λ x.
    let moved = policy_replaced k n p (state_of st) (next_in k (state_of st)) gone.policy is (ordered_before k n p (state_of st) is valid) (seen_there k n gone.policy st gone.stands) x in
    let these = uses_in_state st.entities (state_of st) held x in
    let fewer = gone.uses_go.fewer x in
    let same = ap (λ (e : Tables). times x (entity_attributes e)) gone.uses_go.others in
    omega (arith, moved, these, fewer, same)) ∙ ap not valid.attributes

pub can_put_other : (k : Kind) (n : ℕ) (name : List ℕ) (p : PolicyTables) → number_of k name p ≡ Some n → can_put k name false p ≡ true
can_put_other k n name p named = ap is_some named

pub ruled_replaced : (k : Kind) (n : ℕ) (p : Policy) (st : Around) (mid t : Tables) → is_policy_kind k ≡ true → number_of k p.name st.policies ≡ Some n
    → ValidState (settle (with_replaced k n p (state_of st))) → HoldsPolicies st → LetsPolicyGo k n st.policies st.entities mid → Holds (names_of p) mid t
    → Rules (change.Replace k n p) st.entities t st.policies (put_in k p false st.policies)
ruled_replaced k n p st mid t is named valid held gone holds = record {
  policies_are = put;
  entities_stay = ap (λ (e : Tables). record e { held = st.entities.held }) holds.others ∙ gone.uses_go.others;
  held = λ x.
      let more = holds.more x in let fewer = gone.uses_go.fewer x in let before = held x in
      let after = other_attributes k n p gone.policy st is valid gone.stands x in
      let same = ap (λ (q : PolicyTables). times x (attributes_of q)) put in
      omega (arith, more, fewer, before, after, same);
}
  where
    put : put_in k p false st.policies ≡ tables.with_replaced k n p st.policies
    put = ap (λ (o : Option ℕ). option_map_or (λ m. tables.with_replaced k m p st.policies) o st.policies) named

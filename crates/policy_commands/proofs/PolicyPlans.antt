-- The plans of the commands on policies: what is refused, and what comes, is replaced or goes.
use Rattle.std.proofs.Common.{◌≡◌, ℕ, Bool, true, false, cond, not, List, [], ◌++◌, Option, None, Some, Result, Ok, Err, is_some, refl, sym, ◌∙◌, ap, subst, arith}
use Rattle.std.specs.Option.{option_map, option_map_or}
use Rattle.std.specs.Prelude.{⊤}
use Rattle.std.proofs.lemmas.Bool.{false≢true}
use Rattle.ctrl_model.specs.RecordCommands.{delete}
use Rattle.ctrl_model.specs.declared.kinds.Kind.{Kind}
use Rattle.ctrl_model.specs.declared.kinds.Kind.TheVariants as kind
use Rattle.ctrl_model.specs.declared.refusals.Field.TheVariants as field
use Rattle.ctrl_model.specs.declared.refusals.Refusal.{Refusal}
use Rattle.ctrl_model.specs.declared.refusals.Refusal.TheVariants.{Full, Unknown}
use Rattle.ctrl_model.specs.declared.replies.Reply.TheVariants.{Done, Made, Refused}
use Rattle.ctrl_model.specs.Numbered.{at}
use Rattle.ctrl_model.specs.State.{State, Policy, start}
use Rattle.ctrl_model.specs.Tables.{is_policy_kind}
use Rattle.ctrl_model.specs.Rules.{or_then, refuse_if, carried_out, unknown_if_absent, at_number}
use Rattle.ctrl_model.proofs.TableLaws.{found-named}
use Rattle.model_laws.specs.Plans.{refused, changed}
use Rattle.model_laws.proofs.PlannedLaws.{plans_refused, plans_carried}
use Rattle.entity_store.specs.EntityTables.{Tables}
use Rattle.entity_store.specs.AttributeUses.{AreUsed, has_attribute_room}
use Rattle.entity_store.proofs.InUseLaws.{uses_in_state}
use Rattle.policy_store.specs.declared.changes.PolicyChange.TheVariants as change
use Rattle.policy_store.specs.declared.policies.PolicyFault.{PolicyFault}
use Rattle.policy_store.specs.declared.policies.PolicyFault.TheVariants as fault
use Rattle.policy_store.specs.PolicyTables.{PolicyTables, policies, next_of, number_of, left_kind, right_kind}
use Rattle.policy_store.specs.PolicyRules.{KeepsNumbers}
use Rattle.policy_commands.specs.PolicyStates.{HoldsUses}
use Rattle.policy_store.specs.PolicyChanges.{with_policy, with_replaced, without_policy}
use Rattle.policy_commands.specs.PolicyPlans.{PlansPolicies, takes_memory}
use Rattle.policy_commands.specs.PutPolicies.{absent_place, absent_name, may_put}
use Rattle.policy_commands.specs.PlannedPolicies.{AreShort, IsJudged, needs_memory, refusal_judged, refusal_to_put, refusal_of_new, refusal_of_replace, answer_create, answer_replace}
use Rattle.policy_commands.proofs.Arounds.{Around, HoldsPolicies, state_of}
use Rattle.policy_commands.proofs.PolicyUses.{names_of, policy_removed}
use Rattle.policy_commands.proofs.RefusedPolicies.{refused_create, refused_replace}

-- ---- a new policy

created : (k : Kind) (p : Policy) (st : Around) → is_policy_kind k ≡ true
    → answer_create k p (state_of st) ≡ carried_out (refusal_of_new k p (state_of st)) (state_of st) (Made (next_of k st.policies)) (with_policy k p (state_of st))
created kind.ServicePolicy p st is = refl
created kind.EdgeRouterPolicy p st is = refl
created kind.ServiceEdgeRouterPolicy p st is = refl
created _ p st is = absurd (false≢true is)

-- the refusal in the words of the store
create_judged : (k : Kind) (p : Policy) (gone : List (List ℕ)) (st : Around) → is_policy_kind k ≡ true → AreShort p → HoldsPolicies st → gone ≡ []
    → refusal_to_put k p true gone st.policies st.entities ≡ refusal_of_new k p (state_of st)
create_judged k p gone st is short held same = ap (λ g. refusal_to_put k p true g st.policies st.entities) same ∙ refused_create k p st is short held

pub create_refused : (k : Kind) (p : Policy) (gone : List (List ℕ)) (st : Around) (r : Refusal) → is_policy_kind k ≡ true → AreShort p → HoldsPolicies st → gone ≡ []
    → Some r ≡ refusal_to_put k p true gone st.policies st.entities → PlansPolicies (refused r) (answer_create k p (state_of st)) (state_of st)
create_refused k p gone st r is short held same e =
    subst (λ a. PlansPolicies (refused r) a (state_of st)) (sym (created k p st is))
    (plans_refused _ r (state_of st) _ _ (sym (e ∙ create_judged k p gone st is short held same)))

pub create_planned : (k : Kind) (p : Policy) (gone : List (List ℕ)) (st : Around) (n : ℕ) → is_policy_kind k ≡ true → AreShort p → HoldsPolicies st → gone ≡ []
    → None ≡ refusal_to_put k p true gone st.policies st.entities → n ≡ next_of k st.policies
    → PlansPolicies (changed (Made n) (change.Add k p)) (answer_create k p (state_of st)) (state_of st)
create_planned k p gone st n is short held same e next =
    subst (λ m. PlansPolicies (changed (Made m) (change.Add k p)) (answer_create k p (state_of st)) (state_of st)) (sym next)
    (subst (λ a. PlansPolicies (changed (Made (next_of k st.policies)) (change.Add k p)) a (state_of st)) (sym (created k p st is))
    (plans_carried (change.Add k p) _ (state_of st) (Made (next_of k st.policies)) _ (sym (e ∙ create_judged k p gone st is short held same)) refl is refl))

-- ---- a policy that is replaced

-- the attributes of a present policy are used
pub policy_used : (k : Kind) (n : ℕ) (e : Tables) (t : PolicyTables) (old : Policy) → is_policy_kind k ≡ true → HoldsUses e t → KeepsNumbers k t → Some old ≡ at (policies k t) n
    → AreUsed e (names_of old)
policy_used k n e t old is held keeps stands x =
    let s : State = state_of (record { entities = e; policies = t; rest = start }) in
    let all = uses_in_state e s held x in
    let parts = policy_removed k n s (next_of k t) old is keeps.ordered (sym stands) x in
    omega (arith, all, parts)

-- the answer, where the name finds a number
replaced : (k : Kind) (n : ℕ) (p : Policy) (st : Around) → is_policy_kind k ≡ true → number_of k p.name st.policies ≡ Some n
    → answer_replace k p (state_of st) ≡ carried_out (refusal_of_replace k p (state_of st)) (state_of st) Done (with_replaced k n p (state_of st))
replaced kind.ServicePolicy n p st is named =
    ap (λ o. carried_out (refusal_of_replace kind.ServicePolicy p (state_of st)) (state_of st) Done (at_number o (state_of st) (λ m. with_replaced kind.ServicePolicy m p (state_of st)))) named
replaced kind.EdgeRouterPolicy n p st is named =
    ap (λ o. carried_out (refusal_of_replace kind.EdgeRouterPolicy p (state_of st)) (state_of st) Done (at_number o (state_of st) (λ m. with_replaced kind.EdgeRouterPolicy m p (state_of st)))) named
replaced kind.ServiceEdgeRouterPolicy n p st is named =
    ap (λ o. carried_out (refusal_of_replace kind.ServiceEdgeRouterPolicy p (state_of st)) (state_of st) Done (at_number o (state_of st) (λ m. with_replaced kind.ServiceEdgeRouterPolicy m p (state_of st)))) named
replaced _ n p st is named = absurd (false≢true is)

unknown_first : (o : Option ℕ) (rest : Option Refusal) → o ≡ None → or_then (unknown_if_absent field.Name o) rest ≡ Some (Unknown field.Name)
unknown_first o rest e = ap (λ q. or_then (unknown_if_absent field.Name q) rest) e

pub replace_unknown : (k : Kind) (p : Policy) (st : Around) → is_policy_kind k ≡ true → number_of k p.name st.policies ≡ None
    → PlansPolicies (refused (Unknown field.Name)) (answer_replace k p (state_of st)) (state_of st)
replace_unknown kind.ServicePolicy p st is absent = plans_refused _ (Unknown field.Name) (state_of st) _ _ (unknown_first _ _ absent)
replace_unknown kind.EdgeRouterPolicy p st is absent = plans_refused _ (Unknown field.Name) (state_of st) _ _ (unknown_first _ _ absent)
replace_unknown kind.ServiceEdgeRouterPolicy p st is absent = plans_refused _ (Unknown field.Name) (state_of st) _ _ (unknown_first _ _ absent)
replace_unknown _ p st is absent = absurd (false≢true is)

-- the refusal in the words of the store
replace_judged : (k : Kind) (n : ℕ) (p old : Policy) (gone : List (List ℕ)) (st : Around) → is_policy_kind k ≡ true → AreShort p → HoldsPolicies st → KeepsNumbers k st.policies
    → number_of k p.name st.policies ≡ Some n → Some old ≡ at (policies k st.policies) n → gone ≡ names_of old
    → refusal_to_put k p false gone st.policies st.entities ≡ refusal_of_replace k p (state_of st)
replace_judged k n p old gone st is short held keeps named stands same =
    ap (λ g. refusal_to_put k p false g st.policies st.entities) same
    ∙ refused_replace k n p st (next_of k st.policies) old is short held keeps.ordered named (sym stands)

pub replace_refused : (k : Kind) (n : ℕ) (p old : Policy) (gone : List (List ℕ)) (st : Around) (r : Refusal) → is_policy_kind k ≡ true → AreShort p → HoldsPolicies st
    → KeepsNumbers k st.policies → number_of k p.name st.policies ≡ Some n → Some old ≡ at (policies k st.policies) n → gone ≡ names_of old
    → Some r ≡ refusal_to_put k p false gone st.policies st.entities → PlansPolicies (refused r) (answer_replace k p (state_of st)) (state_of st)
replace_refused k n p old gone st r is short held keeps named stands same e =
    subst (λ a. PlansPolicies (refused r) a (state_of st)) (sym (replaced k n p st is named))
    (plans_refused _ r (state_of st) _ _ (sym (e ∙ replace_judged k n p old gone st is short held keeps named stands same)))

pub replace_planned : (k : Kind) (n : ℕ) (p old : Policy) (gone : List (List ℕ)) (st : Around) → is_policy_kind k ≡ true → AreShort p → HoldsPolicies st → KeepsNumbers k st.policies
    → number_of k p.name st.policies ≡ Some n → Some old ≡ at (policies k st.policies) n → gone ≡ names_of old → None ≡ refusal_to_put k p false gone st.policies st.entities
    → PlansPolicies (changed Done (change.Replace k n p)) (answer_replace k p (state_of st)) (state_of st)
replace_planned k n p old gone st is short held keeps named stands same e =
    subst (λ a. PlansPolicies (changed Done (change.Replace k n p)) a (state_of st)) (sym (replaced k n p st is named))
    (plans_carried (change.Replace k n p) _ (state_of st) Done _ (sym (e ∙ replace_judged k n p old gone st is short held keeps named stands same)) refl (is, named) refl)

-- ---- a policy that is put

pub create_put : (k : Kind) (p q : Policy) (gone : List (List ℕ)) (st : Around) (n : ℕ) → is_policy_kind k ≡ true → AreShort p → HoldsPolicies st → gone ≡ []
    → IsJudged p (refusal_to_put k p true gone st.policies st.entities) (Ok q) → n ≡ next_of k st.policies
    → PlansPolicies (changed (Made n) (change.Add k q)) (answer_create k p (state_of st)) (state_of st)
create_put k p q gone st n is short held same put next =
    subst (λ r. PlansPolicies (changed (Made n) (change.Add k r)) (answer_create k p (state_of st)) (state_of st)) (sym put.0)
    (create_planned k p gone st n is short held same (sym put.1) next)

pub replace_put : (k : Kind) (n : ℕ) (p q old : Policy) (gone : List (List ℕ)) (st : Around) → is_policy_kind k ≡ true → AreShort p → HoldsPolicies st → KeepsNumbers k st.policies
    → number_of k p.name st.policies ≡ Some n → Some old ≡ at (policies k st.policies) n → gone ≡ names_of old
    → IsJudged p (refusal_to_put k p false gone st.policies st.entities) (Ok q)
    → PlansPolicies (changed Done (change.Replace k n q)) (answer_replace k p (state_of st)) (state_of st)
replace_put k n p q old gone st is short held keeps named stands same put =
    subst (λ r. PlansPolicies (changed Done (change.Replace k n r)) (answer_replace k p (state_of st)) (state_of st)) (sym put.0)
    (replace_planned k n p old gone st is short held keeps named stands same (sym put.1))

-- ---- what takes memory

-- whether the answer takes memory, by its refusal, if there is one
abbrev refusal_takes : Option Refusal → Bool
refusal_takes None = true
refusal_takes (Some r) = takes_memory (Refused r)

-- what is judged with memory is told with memory
judged_takes : (k : Kind) (p : Policy) (gone : List (List ℕ)) (t : Tables) (m : Result ⊤ PolicyFault) → needs_memory m ≡ true → refusal_takes (refusal_judged k p gone t m) ≡ true
judged_takes k p gone t (Ok u) e = by (not (has_attribute_room t gone (p.left.attributes ++ p.right.attributes)))
  where
    by : (b : Bool) → refusal_takes (refuse_if b (Full kind.Attribute)) ≡ true
    by true = refl
    by false = refl
judged_takes k p gone t (Err (fault.UnknownRef right place)) e = refl
judged_takes k p gone t (Err fault.Exists) e = absurd (false≢true e)
judged_takes k p gone t (Err fault.Unknown) e = absurd (false≢true e)
judged_takes k p gone t (Err (fault.Full of_kind)) e = absurd (false≢true e)

pub create_takes : (k : Kind) (p : Policy) (st : Around) → is_policy_kind k ≡ true → AreShort p → HoldsPolicies st
    → needs_memory (may_put k p true st.policies st.entities) ≡ true → takes_memory (answer_create k p (state_of st)).0 ≡ true
create_takes k p st is short held needs =
    by (refusal_to_put k p true [] st.policies st.entities) refl (judged_takes k p [] st.entities (may_put k p true st.policies st.entities) needs)
  where
    by : (o : Option Refusal) → o ≡ refusal_to_put k p true [] st.policies st.entities → refusal_takes o ≡ true → takes_memory (answer_create k p (state_of st)).0 ≡ true
    by None e takes = ap takes_memory (sym (create_planned k p [] st (next_of k st.policies) is short held refl e refl).reply)
    by (Some r) e takes = ap takes_memory (sym (create_refused k p [] st r is short held refl e).reply) ∙ takes

pub replace_takes : (k : Kind) (n : ℕ) (p old : Policy) (st : Around) → is_policy_kind k ≡ true → AreShort p → HoldsPolicies st → KeepsNumbers k st.policies
    → number_of k p.name st.policies ≡ Some n → Some old ≡ at (policies k st.policies) n → needs_memory (may_put k p false st.policies st.entities) ≡ true
    → takes_memory (answer_replace k p (state_of st)).0 ≡ true
replace_takes k n p old st is short held keeps named stands needs =
    by (refusal_to_put k p false (names_of old) st.policies st.entities) refl (judged_takes k p (names_of old) st.entities (may_put k p false st.policies st.entities) needs)
  where
    by : (o : Option Refusal) → o ≡ refusal_to_put k p false (names_of old) st.policies st.entities → refusal_takes o ≡ true → takes_memory (answer_replace k p (state_of st)).0 ≡ true
    by None e takes = ap takes_memory (sym (replace_planned k n p old (names_of old) st is short held keeps named stands refl e).reply)
    by (Some r) e takes = ap takes_memory (sym (replace_refused k n p old (names_of old) st r is short held keeps named stands refl e).reply) ∙ takes

-- of a policy whose name is found the rest is judged with memory
pub named_needs : (k : Kind) (n : ℕ) (p : Policy) (t : PolicyTables) (e : Tables) → number_of k p.name t ≡ Some n → needs_memory (may_put k p false t e) ≡ true
named_needs k n p t e named =
    ap (λ o. needs_memory (cond (is_some o) (option_map_or (λ f. Err f) (absent_name k p e) (Ok tt)) (Err fault.Unknown))) named
    ∙ by (absent_place (left_kind k) p.left.ids e) (absent_place (right_kind k) p.right.ids e)
  where
    by : (left right : Option ℕ)
        → needs_memory (option_map_or (λ f. Err f) (option_map_or (λ i. Some (fault.UnknownRef false i)) left (option_map (λ i. fault.UnknownRef true i) right)) (Ok tt)) ≡ true
    by None None = refl
    by None (Some m) = refl
    by (Some m) right = refl

-- ---- a policy that goes

deleted : (k : Kind) (name : List ℕ) (st : Around) → is_policy_kind k ≡ true
    → delete k field.Name name (state_of st) ≡ carried_out (unknown_if_absent field.Name (number_of k name st.policies)) (state_of st) Done
    (at_number (number_of k name st.policies) (state_of st) (λ n. without_policy k n (state_of st)))
deleted kind.ServicePolicy name st is = refl
deleted kind.EdgeRouterPolicy name st is = refl
deleted kind.ServiceEdgeRouterPolicy name st is = refl
deleted _ name st is = absurd (false≢true is)

pub delete_unknown : (k : Kind) (name : List ℕ) (st : Around) → is_policy_kind k ≡ true → number_of k name st.policies ≡ None
    → PlansPolicies (refused (Unknown field.Name)) (delete k field.Name name (state_of st)) (state_of st)
delete_unknown k name st is absent =
    subst (λ a. PlansPolicies (refused (Unknown field.Name)) a (state_of st)) (sym (deleted k name st is))
    (plans_refused _ (Unknown field.Name) (state_of st) Done _ (ap (unknown_if_absent field.Name) absent))

pub delete_planned : (k : Kind) (name : List ℕ) (n : ℕ) (st : Around) → is_policy_kind k ≡ true → KeepsNumbers k st.policies → number_of k name st.policies ≡ Some n
    → PlansPolicies (changed Done (change.Remove k n)) (delete k field.Name name (state_of st)) (state_of st)
delete_planned k name n st is keeps named =
    subst (λ a. PlansPolicies (changed Done (change.Remove k n)) a (state_of st)) (sym (deleted k name st is ∙ ap (λ o. carried_out (unknown_if_absent field.Name o) (state_of st) Done
    (at_number o (state_of st) (λ m. without_policy k m (state_of st)))) named))
    (plans_carried (change.Remove k n) None (state_of st) Done (without_policy k n (state_of st)) refl refl (is, there) refl)
  where
    by : (q : Policy) × (at (policies k st.policies) n ≡ Some q) × (q.name ≡ name) → is_some (at (policies k st.policies) n) ≡ true
    by f = ap is_some f.1

    there : is_some (at (policies k st.policies) n) ≡ true
    there = by (found-named (λ (q : Policy). q.name) (policies k st.policies) n name (next_of k st.policies) 1 keeps.ordered named)

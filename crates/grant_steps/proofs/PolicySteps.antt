-- The steps of a change of policies lead to the counts of the state after it.
use Rattle.std.proofs.Common.{◌≡◌, ℕ, true, None, Some, ap, subst}
use Rattle.ctrl_model.specs.declared.kinds.Kind.{Kind}
use Rattle.ctrl_model.specs.Numbered.{at, is_present}
use Rattle.ctrl_model.specs.State.{State, Policy}
use Rattle.ctrl_model.specs.Tables.{is_policy_kind}
use Rattle.ctrl_model.specs.ValidState.{ValidState}
use Rattle.ctrl_model.proofs.NumberedLaws.{by_is_some}
use Rattle.ctrl_model.proofs.TableLaws.{found-named}
use Rattle.entity_store.specs.EntityTables.{Tables}
use Rattle.entity_store.specs.HeldUses.{with_entities}
use Rattle.policy_store.specs.declared.changes.PolicyChange.{PolicyChange}
use Rattle.policy_store.specs.declared.changes.PolicyChange.TheVariants as change
use Rattle.policy_store.specs.declared.steps.GrantSteps.{GrantSteps}
use Rattle.policy_store.specs.PolicyTables.{PolicyTables, no_policies, policies, number_of}
use Rattle.policy_store.specs.PolicyChanges.{with_policy, with_replaced, with_tables, without_policy}
use Rattle.grant_steps.specs.GrantChanges.{granting_state, StepsOfPolicy}
use Rattle.grant_steps.specs.LeadingSteps.{LeadAllCounts, LeadRuled}
use Rattle.grant_steps.specs.PolicySteps.{StepsOfRule}
use Rattle.grant_steps.proofs.PolicyCounts.{next_in, kind_ordered, created_leads, replaced_leads, removed_leads}
use Rattle.grant_steps.proofs.StepsInState.{policy_steps_in_state}

-- a state with these entities and policies
abbrev in_state : Tables → PolicyTables → State → State
in_state t q s = with_entities t (with_tables q s)

policy_comes : (k : Kind) (p : Policy) (t : Tables) (q : PolicyTables) (s : State) (steps : GrantSteps) → is_policy_kind k ≡ true → ValidState (in_state t q s)
    → StepsOfPolicy k None (Some p) (granting_state t no_policies) steps → LeadAllCounts (in_state t q s) (with_policy k p (in_state t q s)) steps
policy_comes k p t q s steps is valid stepped = created_leads k p (in_state t q s) steps is valid (policy_steps_in_state k None (Some p) t q s steps stepped)

policy_replaced : (k : Kind) (n : ℕ) (p : Policy) (t : Tables) (q : PolicyTables) (s : State) (steps : GrantSteps) → is_policy_kind k ≡ true → number_of k p.name q ≡ Some n
    → ValidState (in_state t q s) → StepsOfPolicy k (at (policies k q) n) (Some p) (granting_state t no_policies) steps
    → LeadAllCounts (in_state t q s) (with_replaced k n p (in_state t q s)) steps
policy_replaced k n p t q s steps is named valid stepped =
    by (found-named (λ (r : Policy). r.name) (policies k q) n p.name (next_in k (in_state t q s)) 1 (kind_ordered k (in_state t q s) valid) named)
  where
    by : (old : Policy) × (at (policies k q) n ≡ Some old) × (old.name ≡ p.name) → LeadAllCounts (in_state t q s) (with_replaced k n p (in_state t q s)) steps
    by f = replaced_leads k n f.0 p (in_state t q s) steps is valid f.1 (ap (λ name. record p { name = name }) f.2)
        (policy_steps_in_state k (Some f.0) (Some p) t q s steps (subst (λ o. StepsOfPolicy k o (Some p) (granting_state t no_policies) steps) f.1 stepped))

policy_goes : (k : Kind) (n : ℕ) (t : Tables) (q : PolicyTables) (s : State) (steps : GrantSteps) → is_policy_kind k ≡ true → is_present (policies k q) n ≡ true → ValidState (in_state t q s)
    → StepsOfPolicy k (at (policies k q) n) None (granting_state t no_policies) steps → LeadAllCounts (in_state t q s) (without_policy k n (in_state t q s)) steps
policy_goes k n t q s steps is there valid stepped = by_is_some (at (policies k q) n) there (λ old stands.
    removed_leads k n old (in_state t q s) steps is valid stands
    (policy_steps_in_state k (Some old) None t q s steps (subst (λ o. StepsOfPolicy k o None (granting_state t no_policies) steps) stands stepped)))

-- the steps of any change of policies
pub rule_leads : (c : PolicyChange) (t : Tables) (q : PolicyTables) (steps : GrantSteps) → StepsOfRule c t q steps → (s : State) → LeadRuled c (in_state t q s) steps
rule_leads (change.Add k p) t q steps stepped s valid can = policy_comes k p t q s steps can valid stepped
rule_leads (change.Replace k n p) t q steps stepped s valid can = policy_replaced k n p t q s steps can.0 can.1 valid stepped
rule_leads (change.Remove k n) t q steps stepped s valid can = policy_goes k n t q s steps can.0 can.1 valid stepped

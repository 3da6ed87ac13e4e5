-- The next number of a store is that of the state.
use Rattle.std.proofs.Common.{◌≡◌, ℕ, ◌≤◌, ◌⊎◌, inl, inr, sym, subst}
use Rattle.ctrl_model.specs.declared.kinds.Kind.{Kind}
use Rattle.ctrl_model.specs.declared.kinds.Kind.TheVariants as kind
use Rattle.ctrl_model.specs.Tables.{table}
use Rattle.entity_store.specs.EntityTables as entity_tables
use Rattle.policy_store.specs.PolicyTables as policy_tables
use Rattle.core_stores.specs.declared.stores.Stores.{Stores}
use Rattle.core_stores.specs.StoredState.{state_of}

pub entities_later : (next : ℕ) (st : Stores) (k : Kind) → (k ≡ kind.Identity) ⊎ ((k ≡ kind.Service) ⊎ (k ≡ kind.Router)) → (table k (state_of st)).next ≤ next
    → entity_tables.next_of k st.entities ≤ next
entities_later next st k (inl e) = subst (λ j. (table j (state_of st)).next ≤ next → entity_tables.next_of j st.entities ≤ next) (sym e) (λ later. later)
entities_later next st k (inr (inl e)) = subst (λ j. (table j (state_of st)).next ≤ next → entity_tables.next_of j st.entities ≤ next) (sym e) (λ later. later)
entities_later next st k (inr (inr e)) = subst (λ j. (table j (state_of st)).next ≤ next → entity_tables.next_of j st.entities ≤ next) (sym e) (λ later. later)

pub policies_later : (next : ℕ) (st : Stores) (k : Kind) → (k ≡ kind.ServicePolicy) ⊎ ((k ≡ kind.EdgeRouterPolicy) ⊎ (k ≡ kind.ServiceEdgeRouterPolicy)) → (table k (state_of st)).next ≤ next
    → policy_tables.next_of k st.policies ≤ next
policies_later next st k (inl e) = subst (λ j. (table j (state_of st)).next ≤ next → policy_tables.next_of j st.policies ≤ next) (sym e) (λ later. later)
policies_later next st k (inr (inl e)) = subst (λ j. (table j (state_of st)).next ≤ next → policy_tables.next_of j st.policies ≤ next) (sym e) (λ later. later)
policies_later next st k (inr (inr e)) = subst (λ j. (table j (state_of st)).next ≤ next → policy_tables.next_of j st.policies ≤ next) (sym e) (λ later. later)

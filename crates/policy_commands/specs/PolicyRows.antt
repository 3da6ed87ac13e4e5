-- The rows of policies that a change touches: which one, and from what states they come (docs/PROMISES.md, "Rows and batches").
use Rattle.std.specs.Prelude.{◌≡◌, ℕ, Bool, List, map}
use Rattle.std.specs.declared.option.Option.{Option}
use Rattle.std.specs.Option.{option_map}
use Rattle.ctrl_model.specs.declared.kinds.Kind.{Kind}
use Rattle.ctrl_model.specs.declared.kinds.Kind.TheVariants as kind
use Rattle.ctrl_model.specs.Numbered.{at, numbers}
use Rattle.ctrl_model.specs.State.{State, Policy}
use Rattle.ctrl_model.specs.ValidState.{ValidState}
use Rattle.row_codec.specs.declared.changes.Change.{Change}
use Rattle.row_codec.specs.RowValues.{service_policy_value, router_policy_value}
use Rattle.row_laws.specs.FittingRecords.{fits}
use Rattle.row_writing.specs.RecordChanges.{change_of}
use Rattle.policy_store.specs.declared.changes.PolicyChange.{PolicyChange}
use Rattle.policy_store.specs.declared.changes.PolicyChange.TheVariants as change
use Rattle.policy_store.specs.declared.records.Hand.{Hand}
use Rattle.policy_store.specs.declared.records.Hand.TheVariants.{Left, Right}
use Rattle.policy_store.specs.PolicyTables.{PolicyTables, next_of, policies}
use Rattle.policy_store.specs.PolicyChanges.{tables_of}
use Rattle.policy_store.specs.Stores.{forget_on}

-- The policies are those of a valid state.
pub record AreValid (p : PolicyTables) : Type 0 where
  pub state : State
  pub valid : ValidState state
  pub holds : tables_of state ≡ p

-- The kind of the policy that a change touches.
abbrev pub touched_kind : PolicyChange → Kind
touched_kind (change.Add k p) = k
touched_kind (change.Replace k n p) = k
touched_kind (change.Remove k n) = k

-- The number of the policy that a change touches: the next one, where one is added.
abbrev pub touched_number : PolicyChange → PolicyTables → ℕ
touched_number (change.Add k p) t = next_of k t
touched_number (change.Replace k n p) t = n
touched_number (change.Remove k n) t = n

-- The value of the row of a policy of a kind.
abbrev pub policy_value : Kind → Policy → List ℕ
policy_value kind.ServicePolicy p = service_policy_value p
policy_value _ p = router_policy_value p

-- Whether a policy of a kind fits its row.
abbrev pub fits_row : Kind → Policy → Bool
fits_row kind.ServicePolicy p = fits kind.ServicePolicy p
fits_row kind.EdgeRouterPolicy p = fits kind.EdgeRouterPolicy p
fits_row _ p = fits kind.ServiceEdgeRouterPolicy p

-- The change of the row of a policy of a kind under a number.
abbrev pub policy_change_of : Kind → ℕ → Option Policy → Option Policy → Change
policy_change_of k n before after = change_of k n (option_map (policy_value k) before) (option_map (policy_value k) after)

-- The change of the row of a policy whose side on one hand loses an `@` name.
abbrev pub forgotten_at : Kind → Hand → List ℕ → List (ℕ × Policy) → ℕ → Change
forgotten_at k hand name rows n = policy_change_of k n (at rows n) (option_map (forget_on hand name) (at rows n))

-- The changes of the rows of all policies of a kind, whose sides on one hand lose an `@` name.
abbrev pub forgotten_rows : Kind → Hand → List ℕ → PolicyTables → List Change
forgotten_rows k hand name t = map (forgotten_at k hand name (policies k t)) (numbers (policies k t))

-- The two kinds of policies that may name an entity of a kind with `@`, each with the hand on which it does.
abbrev pub naming : Kind → (Kind × Hand) × (Kind × Hand)
naming kind.Identity = ((kind.ServicePolicy, Left), (kind.EdgeRouterPolicy, Left))
naming kind.Service = ((kind.ServicePolicy, Right), (kind.ServiceEdgeRouterPolicy, Left))
naming _ = ((kind.EdgeRouterPolicy, Right), (kind.ServiceEdgeRouterPolicy, Right))

-- A state with some entities and policies, and the uses of attributes that are held there (docs/PROMISES.md, "The stores of a core").
use Rattle.ctrl_model.specs.State.{State, start}
use Rattle.entity_store.specs.EntityTables.{Tables}
use Rattle.entity_store.specs.HeldUses.{with_entities, HoldsPolicies}
use Rattle.policy_store.specs.PolicyChanges.{with_tables}
use Rattle.policy_store.specs.PolicyTables.{PolicyTables}

-- A state with these entities and these policies in place of its own. Commands on policies are judged by these alone, so what is said
-- of all such states is said of the one whose parts they are.
abbrev pub over : Tables → PolicyTables → State → State
over t p s = with_entities t (with_tables p s)

-- The uses that are held beside those of entities are those of these policies.
abbrev pub HoldsUses : Tables → PolicyTables → Type 0
HoldsUses t p = HoldsPolicies t (with_tables p start)

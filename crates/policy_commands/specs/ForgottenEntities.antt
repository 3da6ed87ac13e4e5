-- What a change of entities does to the policies (docs/PROMISES.md, "The stores of a core").
use Rattle.std.specs.Prelude.{◌≡◌, ⊤, true}
use Rattle.ctrl_model.specs.Tables.{is_entity_kind}
use Rattle.policy_store.specs.PolicyTables.{PolicyTables, forgetting}
use Rattle.entity_store.specs.declared.changes.EntityChange.{EntityChange}
use Rattle.entity_store.specs.declared.changes.EntityChange.TheVariants as change

-- What a change that removes an entity needs of the policies: that its kind is one of entities.
abbrev pub ForgetsEntity : EntityChange → Type 0
ForgetsEntity (change.Remove k n name) = is_entity_kind k ≡ true
ForgetsEntity _ = ⊤

-- The policies once no side names an entity that a change removes.
abbrev pub forgetting_by : EntityChange → PolicyTables → PolicyTables
forgetting_by (change.Remove k n name) p = forgetting k name p
forgetting_by _ p = p

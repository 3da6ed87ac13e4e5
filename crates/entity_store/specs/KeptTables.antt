-- How a store keeps its tables, with a pool that counts the uses of attributes. Only private functions and proofs of this crate cite
-- this file.
use Rattle.std.specs.Prelude.{◌≡◌, ℕ, ◌<◌, ◌≤◌, List, length, map, slice_index_or}
use Rattle.ctrl_model.specs.declared.kinds.Kind.TheVariants as kind
use Rattle.ctrl_model.specs.Limits.{limit}
use Rattle.attr_pool.specs.Slots.{Slot}
use Rattle.attr_pool.specs.Uses.{uses_of}
use Rattle.entity_store.specs.declared.kind_tables.KindTables.{KindTables}
use Rattle.entity_store.specs.AttributeUses.{uses}
use Rattle.entity_store.specs.EntityTables.{Tables}

-- Names of which each stands for one held use.
abbrev pub held_once : List (List ℕ) → List (List ℕ × ℕ)
held_once names = map (λ n. (n, 1)) names

-- The tables of the three kinds, with these held uses.
abbrev pub tables_of : KindTables → List (List ℕ × ℕ) → Tables
tables_of kinds held = record { identities = kinds.identities; services = kinds.services; routers = kinds.routers; held = held }

-- Each kind keeps its limit.
pub record AreWithin (t : Tables) : Type 0 where
  pub identities : length t.identities.rows ≤ limit kind.Identity
  pub services : length t.services.rows ≤ limit kind.Service
  pub routers : length t.routers.rows ≤ limit kind.Router

-- What a store keeps: each kind its limit, and the pool has the uses of each name.
pub record IsKept (t : Tables) (slots : List Slot) : Type 0 where
  pub within : AreWithin t
  pub counted : (name : List ℕ) → uses_of name slots ≡ uses name t

-- The place of a number among some.
abbrev pub IsPlaceOf : ℕ → List ℕ → ℕ → Type 0
IsPlaceOf n ns place = (place < length ns) × (slice_index_or ns place 0 ≡ n)

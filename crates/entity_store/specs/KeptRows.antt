-- What the names and rows are that a store keeps beside its tables. Only private functions and proofs of this crate cite this file.
use Rattle.std.specs.Prelude.{◌≡◌, ℕ, List, length, map}
use Rattle.std.specs.List.{AllZip}
use Rattle.bit_lanes.specs.Lanes.{bit_of}
use Rattle.ctrl_model.specs.declared.kinds.Kind.TheVariants as kind
use Rattle.ctrl_model.specs.State.{Entity}
use Rattle.attr_pool.specs.AttributeRows.{row_words}
use Rattle.attr_pool.specs.Slots.{Slot, row_bit}
use Rattle.entity_store.specs.declared.kind_rows.AllRows.{AllRows}
use Rattle.entity_store.specs.EntityTables.{Tables, entities}
use Rattle.entity_store.specs.ListedRows.{Listed}

-- Words are the row of some attributes.
pub record IsRow (slots : List Slot) (attributes : List (List ℕ)) (words : List ℕ) : Type 0 where
  pub long : length words ≡ row_words
  pub bits : (n : ℕ) → bit_of words n ≡ row_bit slots attributes n

-- Names and rows are those of some entities, in the order of their numbers.
pub record AreListed (slots : List Slot) (known : List (ℕ × Entity)) (listed : Listed) : Type 0 where
  pub names : listed.names ≡ map (λ row. row.1.name) known
  pub rows : AllZip (λ (row : ℕ × Entity) words. IsRow slots row.1.attributes words) known listed.rows

-- So are those of each kind.
pub record AreAllListed (slots : List Slot) (t : Tables) (all : AllRows) : Type 0 where
  pub identities : AreListed slots (entities kind.Identity t) all.identities
  pub services : AreListed slots (entities kind.Service t) all.services
  pub routers : AreListed slots (entities kind.Router t) all.routers
